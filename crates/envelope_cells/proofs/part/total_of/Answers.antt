use Rattle.std.proofs.Common.{◌≡◌, ◌+◌, ◌*◌, ◌≤◌, ◌+ℤ◌, unsigned_abs, rules, arith, drop, to_z}
use mir.Syntax.{w128}
use mir.Val.{SFits}
use Rattle.std.proofs.lemmas.Int.{ints}
use Rattle.finite_sums.specs.Sums.{total, weight}
use Rattle.envelope_cells.specs.Parts.{picked, part_weight}
use Rattle.envelope_cells.proofs.Lists.{weight_here, sum_small, sum_turn}
use Rattle.envelope_cells.proofs.part.total_of.Goals as goal

pub overflow_add-sum : goal.overflow_add-sum
overflow_add-sum c =
    let f = picked c.args.pick in
    let fits : SFits w128 c.picked-sum.result = search rules in
    let here : unsigned_abs (f c.part-item.result) ≤ weight (part_weight c.args.pick) c.args.parts.now = weight_here (part_weight c.args.pick) c.args.parts.now c.loop-part.part-index c.part-item.result (omega arith) c.part-item.is in
    let past : unsigned_abs (to_z w128 c.loop-part.sum-bits) ≤ 2 * weight (part_weight c.args.pick) c.args.parts.now = sum_small f (to_z w128 c.loop-part.sum-bits) c.args.parts.now c.loop-part.part-index c.loop-part.invariant in
    omega (arith, ints, here, past, c.picked-sum.ensures, c.requires)

pub loop-part-preserved : goal.loop-part-preserved
loop-part-preserved c =
    let f = picked c.args.pick in
    let fits : SFits w128 c.picked-sum.result = search rules in
    let here : unsigned_abs (f c.part-item.result) ≤ weight (part_weight c.args.pick) c.args.parts.now = weight_here (part_weight c.args.pick) c.args.parts.now c.loop-part.part-index c.part-item.result (omega arith) c.part-item.is in
    let past : unsigned_abs (to_z w128 c.loop-part.sum-bits) ≤ 2 * weight (part_weight c.args.pick) c.args.parts.now = sum_small f (to_z w128 c.loop-part.sum-bits) c.args.parts.now c.loop-part.part-index c.loop-part.invariant in
    let turn : (to_z w128 c.loop-part.sum-bits +ℤ f c.part-item.result) +ℤ total f (drop (c.loop-part.part-index + 1) c.args.parts.now) ≡ total f c.args.parts.now = sum_turn f (to_z w128 c.loop-part.sum-bits) (total f c.args.parts.now) c.args.parts.now c.loop-part.part-index c.part-item.result (omega arith) c.part-item.is c.loop-part.invariant in
    omega (arith, ints, here, past, turn, c.picked-sum.ensures, c.requires)
