use Rattle.std.proofs.Common.{None, ap, ◌∙◌}
use Rattle.std.specs.Prelude.{unwrap_or}
use Rattle.dirty_cells.specs.Rows.{whole_by}
use Rattle.dirty_cells.proofs.Rows.{whole_is}
use Rattle.dirty_cells.proofs.row.Row.whole.Goals as goal

pub returns : goal.returns
returns c =
    let inside = c.self.inside in
    c.unwrap_or.ensures ∙ ap (λ o. unwrap_or o (whole_by (λ k. None))) (c.copied.ensures ∙ c.get.ensures.value)
    ∙ whole_is inside.wholes.entries inside.groups.entries inside.categories.entries c.args.self.now c.self.view_is c.args.month
