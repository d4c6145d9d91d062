use Rattle.std.proofs.Common.{◌++◌, ap, ◌∙◌, refl, arith, drop, ◌+◌}
use Rattle.envelope_cells.specs.Whole.{parts_cells, part_cells}
use Rattle.envelope_cells.proofs.Lists.{turn}
use Rattle.envelope_cells.proofs.month_sheet.push_parts.Goals as goal

pub loop-part-preserved : goal.loop-part-preserved
loop-part-preserved c =
    let t = c.args.is_income in
    let i = c.loop-part.part-index in
    ap (λ done. done ++ parts_cells c.args.month t (drop (i + 1) c.args.parts.now)) c.in_ok-push_part.ensures
    ∙ turn (parts_cells c.args.month t) (part_cells c.args.month t) (λ x xs. refl) c.loop-part.cells.items _ c.args.parts.now i c.part-item.result (omega arith) c.part-item.is c.loop-part.invariant
