use Rattle.std.proofs.Common.{◌≡◌, ◌+◌, ◌*◌, ◌≤◌, ◌+ℤ◌, unsigned_abs, rules, arith, drop, to_z, ap, ◌∙◌}
use mir.Syntax.{w128}
use mir.Val.{SFits}
use lib.IntN.{pos}
use Rattle.std.specs.Prelude.{unwrap_or}
use Rattle.std.specs.FinMap.{get}
use Rattle.std.proofs.lemmas.Int.{ints}
use Rattle.finite_sums.specs.Sums.{total, weight}
use Rattle.envelope_cells.proofs.Lists.{weight_here, sum_small, sum_turn}
use Rattle.envelope_cells.specs.declared.name.CellKind.TheVariants.{Sum, Budget as OfBudget, Leftover}
use Rattle.dirty_cells.specs.Right.{kept_value}
use Rattle.dirty_cells.proofs.group.sums_kept.Goals as goal

pub overflow_add-sum : goal.overflow_add-sum
overflow_add-sum c =
    let f = kept_value c.args.cells.now c.args.number Sum in
    let told : c.category-more.result.sum ≡ f c.id-item.result = c.category-more.ensures.sum ∙ ap (λ m. unwrap_or (get c.args.cells.now (record { month = m; kind = Sum; id = c.id-item.result })) (pos 0)) c.requires.month in
    let fits : SFits w128 c.category-more.result.sum = search rules in
    let here : unsigned_abs (f c.id-item.result) ≤ weight (λ id. unsigned_abs (f id)) c.args.ids.now = weight_here (λ id. unsigned_abs (f id)) c.args.ids.now c.loop-id.id-index c.id-item.result (omega arith) c.id-item.is in
    let past : unsigned_abs (to_z w128 c.loop-id.sum-bits) ≤ 2 * weight (λ id. unsigned_abs (f id)) c.args.ids.now = sum_small f (to_z w128 c.loop-id.sum-bits) c.args.ids.now c.loop-id.id-index c.loop-id.invariant.sum in
    omega (arith, ints, here, past, told, c.requires.sum)

pub overflow_add-budget : goal.overflow_add-budget
overflow_add-budget c =
    let f = kept_value c.args.cells.now c.args.number OfBudget in
    let told : c.category-more.result.budget ≡ f c.id-item.result = c.category-more.ensures.budget ∙ ap (λ m. unwrap_or (get c.args.cells.now (record { month = m; kind = OfBudget; id = c.id-item.result })) (pos 0)) c.requires.month in
    let fits : SFits w128 c.category-more.result.budget = search rules in
    let here : unsigned_abs (f c.id-item.result) ≤ weight (λ id. unsigned_abs (f id)) c.args.ids.now = weight_here (λ id. unsigned_abs (f id)) c.args.ids.now c.loop-id.id-index c.id-item.result (omega arith) c.id-item.is in
    let past : unsigned_abs (to_z w128 c.loop-id.budget-bits) ≤ 2 * weight (λ id. unsigned_abs (f id)) c.args.ids.now = sum_small f (to_z w128 c.loop-id.budget-bits) c.args.ids.now c.loop-id.id-index c.loop-id.invariant.budget in
    omega (arith, ints, here, past, told, c.requires.budget)

pub overflow_add-leftover : goal.overflow_add-leftover
overflow_add-leftover c =
    let f = kept_value c.args.cells.now c.args.number Leftover in
    let told : c.category-more.result.leftover ≡ f c.id-item.result = c.category-more.ensures.leftover ∙ ap (λ m. unwrap_or (get c.args.cells.now (record { month = m; kind = Leftover; id = c.id-item.result })) (pos 0)) c.requires.month in
    let fits : SFits w128 c.category-more.result.leftover = search rules in
    let here : unsigned_abs (f c.id-item.result) ≤ weight (λ id. unsigned_abs (f id)) c.args.ids.now = weight_here (λ id. unsigned_abs (f id)) c.args.ids.now c.loop-id.id-index c.id-item.result (omega arith) c.id-item.is in
    let past : unsigned_abs (to_z w128 c.loop-id.leftover-bits) ≤ 2 * weight (λ id. unsigned_abs (f id)) c.args.ids.now = sum_small f (to_z w128 c.loop-id.leftover-bits) c.args.ids.now c.loop-id.id-index c.loop-id.invariant.leftover in
    omega (arith, ints, here, past, told, c.requires.leftover)

pub loop-id-preserved : goal.loop-id-preserved
loop-id-preserved c = record {
  sum =
      let f = kept_value c.args.cells.now c.args.number Sum in
      let told : c.category-more.result.sum ≡ f c.id-item.result = c.category-more.ensures.sum ∙ ap (λ m. unwrap_or (get c.args.cells.now (record { month = m; kind = Sum; id = c.id-item.result })) (pos 0)) c.requires.month in
      let fits : SFits w128 c.category-more.result.sum = search rules in
      let here : unsigned_abs (f c.id-item.result) ≤ weight (λ id. unsigned_abs (f id)) c.args.ids.now = weight_here (λ id. unsigned_abs (f id)) c.args.ids.now c.loop-id.id-index c.id-item.result (omega arith) c.id-item.is in
      let past : unsigned_abs (to_z w128 c.loop-id.sum-bits) ≤ 2 * weight (λ id. unsigned_abs (f id)) c.args.ids.now = sum_small f (to_z w128 c.loop-id.sum-bits) c.args.ids.now c.loop-id.id-index c.loop-id.invariant.sum in
      let turn : (to_z w128 c.loop-id.sum-bits +ℤ f c.id-item.result) +ℤ total f (drop (c.loop-id.id-index + 1) c.args.ids.now) ≡ total f c.args.ids.now = sum_turn f (to_z w128 c.loop-id.sum-bits) (total f c.args.ids.now) c.args.ids.now c.loop-id.id-index c.id-item.result (omega arith) c.id-item.is c.loop-id.invariant.sum in
      omega (arith, ints, here, past, turn, told, c.requires.sum);
  budget =
      let f = kept_value c.args.cells.now c.args.number OfBudget in
      let told : c.category-more.result.budget ≡ f c.id-item.result = c.category-more.ensures.budget ∙ ap (λ m. unwrap_or (get c.args.cells.now (record { month = m; kind = OfBudget; id = c.id-item.result })) (pos 0)) c.requires.month in
      let fits : SFits w128 c.category-more.result.budget = search rules in
      let here : unsigned_abs (f c.id-item.result) ≤ weight (λ id. unsigned_abs (f id)) c.args.ids.now = weight_here (λ id. unsigned_abs (f id)) c.args.ids.now c.loop-id.id-index c.id-item.result (omega arith) c.id-item.is in
      let past : unsigned_abs (to_z w128 c.loop-id.budget-bits) ≤ 2 * weight (λ id. unsigned_abs (f id)) c.args.ids.now = sum_small f (to_z w128 c.loop-id.budget-bits) c.args.ids.now c.loop-id.id-index c.loop-id.invariant.budget in
      let turn : (to_z w128 c.loop-id.budget-bits +ℤ f c.id-item.result) +ℤ total f (drop (c.loop-id.id-index + 1) c.args.ids.now) ≡ total f c.args.ids.now = sum_turn f (to_z w128 c.loop-id.budget-bits) (total f c.args.ids.now) c.args.ids.now c.loop-id.id-index c.id-item.result (omega arith) c.id-item.is c.loop-id.invariant.budget in
      omega (arith, ints, here, past, turn, told, c.requires.budget);
  leftover =
      let f = kept_value c.args.cells.now c.args.number Leftover in
      let told : c.category-more.result.leftover ≡ f c.id-item.result = c.category-more.ensures.leftover ∙ ap (λ m. unwrap_or (get c.args.cells.now (record { month = m; kind = Leftover; id = c.id-item.result })) (pos 0)) c.requires.month in
      let fits : SFits w128 c.category-more.result.leftover = search rules in
      let here : unsigned_abs (f c.id-item.result) ≤ weight (λ id. unsigned_abs (f id)) c.args.ids.now = weight_here (λ id. unsigned_abs (f id)) c.args.ids.now c.loop-id.id-index c.id-item.result (omega arith) c.id-item.is in
      let past : unsigned_abs (to_z w128 c.loop-id.leftover-bits) ≤ 2 * weight (λ id. unsigned_abs (f id)) c.args.ids.now = sum_small f (to_z w128 c.loop-id.leftover-bits) c.args.ids.now c.loop-id.id-index c.loop-id.invariant.leftover in
      let turn : (to_z w128 c.loop-id.leftover-bits +ℤ f c.id-item.result) +ℤ total f (drop (c.loop-id.id-index + 1) c.args.ids.now) ≡ total f c.args.ids.now = sum_turn f (to_z w128 c.loop-id.leftover-bits) (total f c.args.ids.now) c.args.ids.now c.loop-id.id-index c.id-item.result (omega arith) c.id-item.is c.loop-id.invariant.leftover in
      omega (arith, ints, here, past, turn, told, c.requires.leftover);
}
