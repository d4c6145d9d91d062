use Rattle.std.proofs.Common.{◌++◌, ap, ◌∙◌, refl, arith, drop, ◌+◌}
use Rattle.envelope_cells.specs.NamesOf.{categories_names, category_names}
use Rattle.envelope_cells.proofs.Lists.{turn}
use Rattle.envelope_cells.proofs.names.push_categories.Goals as goal

pub loop-id-preserved : goal.loop-id-preserved
loop-id-preserved c =
    let t = c.args.is_income in
    let i = c.loop-id.id-index in
    ap (λ done. done ++ categories_names c.args.month t (drop (i + 1) c.args.ids.now)) c.in_ok-push_category.ensures
    ∙ turn (categories_names c.args.month t) (category_names c.args.month t) (λ x xs. refl) c.loop-id.names.items _ c.args.ids.now i c.id-item.result (omega arith) c.id-item.is c.loop-id.invariant
