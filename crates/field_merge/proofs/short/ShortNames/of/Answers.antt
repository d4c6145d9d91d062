use Rattle.std.proofs.Common.{◌∙◌}
use Rattle.field_values.specs.Names.{field_of}
use Rattle.field_merge.proofs.ShortLemmas.{kept, spelled}
use Rattle.field_merge.proofs.short.ShortNames.of.Goals as goal

pub returns : goal.returns
returns c =
    let dataset = c.dataset.view_is ∙ c.of-dataset.ensures in
    let row = c.row.view_is ∙ c.of-row.ensures in
    let column = c.column.view_is ∙ c.of-column.ensures in
    spelled (c.of.ensures ∙ c.front.ensures) c.dataset.invariant (c.of-2.ensures ∙ c.front-2.ensures) (c.of-3.ensures ∙ c.front_at.ensures) (c.of-4.ensures ∙ c.front_at-2.ensures) c.row.invariant (c.of-5.ensures ∙ c.front-3.ensures) c.column.invariant
    ∙ (λ i. field_of (dataset i) (row i) (column i))

pub invariant_of-result : goal.invariant_of-result
invariant_of-result c =
    kept (c.of.ensures ∙ c.front.ensures) c.dataset.invariant (c.of-2.ensures ∙ c.front-2.ensures) (c.of-3.ensures ∙ c.front_at.ensures) (c.of-4.ensures ∙ c.front_at-2.ensures) c.row.invariant (c.of-5.ensures ∙ c.front-3.ensures) c.column.invariant
