use Rattle.std.proofs.Common.{◌++◌, ◌∷◌, [], map, ap, ◌∙◌, refl, arith, drop, ◌+◌}
use Rattle.envelope_cells.specs.BudgetOf.{budget_of}
use Rattle.envelope_cells.specs.Parts.{part_of, weight_before}
use Rattle.envelope_cells.proofs.Lists.{turn, weight_here}
use Rattle.envelope_cells.proofs.part.parts_of.Goals as goal

pub loop-id-preserved : goal.loop-id-preserved
loop-id-preserved c =
    let f = part_of (budget_of c.args.book.now.rows) c.args.number in
    let i = c.loop-id.id-index in
    ap (λ done. done ++ map f (drop (i + 1) c.args.ids.now)) (c.in_ok-push.ensures.items ∙ ap (λ p. c.loop-id.parts.items ++ p ∷ []) c.in_ok-part_of.ensures)
    ∙ turn (map f) (λ x. f x ∷ []) (λ x xs. refl) c.loop-id.parts.items _ c.args.ids.now i c.id-item.result (omega arith) c.id-item.is c.loop-id.invariant

pub part_of-requires-clause-small : goal.part_of-requires-clause-small
part_of-requires-clause-small c = omega (arith, weight_here (λ q. weight_before (budget_of c.args.book.now.rows) q (c.args.number + 1)) c.args.ids.now c.loop-id.id-index c.id-item.result (omega arith) c.id-item.is, c.requires.small)

pub part_of-requires-clause-quiet : goal.part_of-requires-clause-quiet
part_of-requires-clause-quiet c = c.requires.quiet c.id-item.result
