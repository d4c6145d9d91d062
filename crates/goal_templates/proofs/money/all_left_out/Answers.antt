use Rattle.std.proofs.Common.{◌≡◌, ◌+◌, ◌*◌, ◌≤◌, ◌+ℤ◌, ℕ, unsigned_abs, rules, arith, drop, to_z}
use lib.IntN.{ℤ}
use mir.Syntax.{w128}
use mir.Val.{SFits}
use Rattle.std.proofs.lemmas.Int.{ints}
use Rattle.finite_sums.specs.Sums.{total, weight}
use Rattle.finite_sums.specs.Maps.{Text}
use Rattle.envelope_cells.specs.BudgetOf.{budget_of}
use Rattle.envelope_cells.specs.Parts.{weight_before}
use Rattle.envelope_cells.proofs.Lists.{weight_here, sum_within, sum_turn}
use Rattle.goal_templates.specs.Money.{left_out}
use Rattle.goal_templates.proofs.ToShare.{out_small, weight_times}
use Rattle.goal_templates.proofs.money.all_left_out.Goals as goal

pub left_out-requires-clause-small : goal.left_out-requires-clause-small
left_out-requires-clause-small c = omega (arith, weight_here (λ q. weight_before (budget_of c.args.book.now.rows) q (c.args.number + 1)) c.args.ids.now c.loop-id.id-index c.id-item.result (omega arith) c.id-item.is, c.requires.small)

pub overflow_add-sum : goal.overflow_add-sum
overflow_add-sum c =
    let b = budget_of c.args.book.now.rows in
    let f : Text → ℤ = left_out b c.args.number c.args.asked.now in
    let v : Text → ℕ = (λ q. weight_before b q (c.args.number + 1)) in
    let w : Text → ℕ = (λ q. 3 * weight_before b q (c.args.number + 1)) in
    let fits : SFits w128 c.in_ok-sum.field-0 = search rules in
    let here : w c.id-item.result ≤ weight w c.args.ids.now = weight_here w c.args.ids.now c.loop-id.id-index c.id-item.result (omega arith) c.id-item.is in
    let past : unsigned_abs (to_z w128 c.loop-id.sum-bits) ≤ 2 * weight w c.args.ids.now = sum_within f w (out_small b c.args.number c.args.asked.now) (to_z w128 c.loop-id.sum-bits) c.args.ids.now c.loop-id.id-index c.loop-id.invariant in
    omega (arith, ints, here, past, weight_times 3 v c.args.ids.now, c.in_ok-sum.ensures, c.requires.small, out_small b c.args.number c.args.asked.now c.id-item.result)

pub loop-id-preserved : goal.loop-id-preserved
loop-id-preserved c =
    let b = budget_of c.args.book.now.rows in
    let f : Text → ℤ = left_out b c.args.number c.args.asked.now in
    let v : Text → ℕ = (λ q. weight_before b q (c.args.number + 1)) in
    let w : Text → ℕ = (λ q. 3 * weight_before b q (c.args.number + 1)) in
    let fits : SFits w128 c.in_ok-sum.field-0 = search rules in
    let here : w c.id-item.result ≤ weight w c.args.ids.now = weight_here w c.args.ids.now c.loop-id.id-index c.id-item.result (omega arith) c.id-item.is in
    let past : unsigned_abs (to_z w128 c.loop-id.sum-bits) ≤ 2 * weight w c.args.ids.now = sum_within f w (out_small b c.args.number c.args.asked.now) (to_z w128 c.loop-id.sum-bits) c.args.ids.now c.loop-id.id-index c.loop-id.invariant in
    let turn : (to_z w128 c.loop-id.sum-bits +ℤ f c.id-item.result) +ℤ total f (drop (c.loop-id.id-index + 1) c.args.ids.now) ≡ total f c.args.ids.now = sum_turn f (to_z w128 c.loop-id.sum-bits) (total f c.args.ids.now) c.args.ids.now c.loop-id.id-index c.id-item.result (omega arith) c.id-item.is c.loop-id.invariant in
    omega (arith, ints, here, past, turn, weight_times 3 v c.args.ids.now, c.in_ok-sum.ensures, c.requires.small, out_small b c.args.number c.args.asked.now c.id-item.result)
