use Rattle.std.proofs.Common.{◌≡◌, ap, ◌+◌, ◌*◌, ◌≤◌, ◌+ℤ◌, unsigned_abs, rules, arith, drop, to_z, ℤ}
use mir.Syntax.{w128}
use mir.Val.{SFits}
use Rattle.std.proofs.lemmas.Int.{ints}
use Rattle.finite_sums.specs.Sums.{total, weight}
use Rattle.envelope_cells.proofs.Lists.{weight_here, sum_within, sum_turn, sum_ended, total_within}
use Rattle.tracking_budget.specs.declared.part.Part.{Part}
use Rattle.tracking_budget.specs.Parts.{side_part, size_of}
use Rattle.tracking_budget.proofs.Totals.{side_small}
use Rattle.tracking_budget.proofs.part.total_of.Goals as goal

pub overflow_add-sum : goal.overflow_add-sum
overflow_add-sum c =
    let f : Part → ℤ = side_part c.args.pick c.args.income in
    let fits : SFits w128 c.side_part-sum.result = search rules in
    let here : size_of c.args.pick c.part-item.result ≤ weight (size_of c.args.pick) c.args.parts.now = weight_here (size_of c.args.pick) c.args.parts.now c.loop-part.part-index c.part-item.result (omega arith) c.part-item.is in
    let past : unsigned_abs (to_z w128 c.loop-part.sum-bits) ≤ 2 * weight (size_of c.args.pick) c.args.parts.now = sum_within f (size_of c.args.pick) (side_small c.args.pick c.args.income) (to_z w128 c.loop-part.sum-bits) c.args.parts.now c.loop-part.part-index c.loop-part.invariant in
    omega (arith, ints, here, past, c.side_part-sum.ensures, c.requires, (side_small c.args.pick c.args.income) c.part-item.result)

pub loop-part-preserved : goal.loop-part-preserved
loop-part-preserved c =
    let f : Part → ℤ = side_part c.args.pick c.args.income in
    let fits : SFits w128 c.side_part-sum.result = search rules in
    let here : size_of c.args.pick c.part-item.result ≤ weight (size_of c.args.pick) c.args.parts.now = weight_here (size_of c.args.pick) c.args.parts.now c.loop-part.part-index c.part-item.result (omega arith) c.part-item.is in
    let past : unsigned_abs (to_z w128 c.loop-part.sum-bits) ≤ 2 * weight (size_of c.args.pick) c.args.parts.now = sum_within f (size_of c.args.pick) (side_small c.args.pick c.args.income) (to_z w128 c.loop-part.sum-bits) c.args.parts.now c.loop-part.part-index c.loop-part.invariant in
    let turn : (to_z w128 c.loop-part.sum-bits +ℤ f c.part-item.result) +ℤ total f (drop (c.loop-part.part-index + 1) c.args.parts.now) ≡ total f c.args.parts.now = sum_turn f (to_z w128 c.loop-part.sum-bits) (total f c.args.parts.now) c.args.parts.now c.loop-part.part-index c.part-item.result (omega arith) c.part-item.is c.loop-part.invariant in
    omega (arith, ints, here, past, turn, c.side_part-sum.ensures, c.requires, (side_small c.args.pick c.args.income) c.part-item.result)

pub returns-clause-small : goal.returns-clause-small
returns-clause-small c =
    let f : Part → ℤ = side_part c.args.pick c.args.income in
    let ended : to_z w128 c.loop-part.sum-bits ≡ total f c.args.parts.now = sum_ended f (to_z w128 c.loop-part.sum-bits) (total f c.args.parts.now) c.args.parts.now c.loop-part.part-index (omega arith) c.loop-part.invariant in
    omega (arith, ints, ap unsigned_abs ended, total_within f (size_of c.args.pick) c.args.parts.now (side_small c.args.pick c.args.income), c.requires)
