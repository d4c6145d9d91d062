use Rattle.std.proofs.Common.{◌++◌, ◌∷◌, [], map, ap, ◌∙◌, refl, arith, drop, ◌+◌}
use Rattle.envelope_cells.proofs.Lists.{turn, weight_here}
use Rattle.tracking_budget.specs.Tracked.{tracked_of}
use Rattle.tracking_budget.specs.Parts.{part_of, weight_of}
use Rattle.tracking_budget.proofs.part.parts_of.Goals as goal

pub loop-category-preserved : goal.loop-category-preserved
loop-category-preserved c =
    let f = part_of (tracked_of c.args.book.now.rows) c.args.number in
    let i = c.loop-category.category-index in
    ap (λ done. done ++ map f (drop (i + 1) c.args.live.now)) (c.in_ok-push.ensures.items ∙ ap (λ p. c.loop-category.parts.items ++ p ∷ []) c.in_ok-part_of.ensures)
    ∙ turn (map f) (λ x. f x ∷ []) (λ x xs. refl) c.loop-category.parts.items _ c.args.live.now i c.category-item.result (omega arith) c.category-item.is c.loop-category.invariant

pub part_of-requires-clause-small : goal.part_of-requires-clause-small
part_of-requires-clause-small c = omega (arith, weight_here (weight_of (tracked_of c.args.book.now.rows) c.args.number) c.args.live.now c.loop-category.category-index c.category-item.result (omega arith) c.category-item.is, c.requires.small)
