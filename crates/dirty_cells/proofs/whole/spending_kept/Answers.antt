use Rattle.std.proofs.Common.{◌≡◌, ◌+◌, ◌*◌, ◌≤◌, ◌+ℤ◌, unsigned_abs, rules, arith, drop, to_z, false}
use mir.Syntax.{w128}
use mir.Val.{SFits}
use Rattle.std.proofs.lemmas.Int.{ints}
use Rattle.finite_sums.specs.Sums.{total, weight}
use Rattle.envelope_cells.proofs.Lists.{weight_here, sum_small, sum_turn}
use Rattle.envelope_cells.specs.declared.name.CellKind.TheVariants.{GroupSum, GroupBudget, GroupLeftover}
use Rattle.dirty_cells.specs.WholeOf.{kept_of_group}
use Rattle.dirty_cells.proofs.whole.spending_kept.Goals as goal

pub overflow_add-spent : goal.overflow_add-spent
overflow_add-spent c =
    let f = kept_of_group c.args.cells.now c.args.number GroupSum false in
    let told : c.group_amounts-more.result.sum ≡ f c.group-item.result = c.group_amounts-more.ensures.sum in
    let fits : SFits w128 c.group_amounts-more.result.sum = search rules in
    let here : unsigned_abs (f c.group-item.result) ≤ weight (λ g. unsigned_abs (f g)) c.args.groups.now = weight_here (λ g. unsigned_abs (f g)) c.args.groups.now c.loop-group.group-index c.group-item.result (omega arith) c.group-item.is in
    let past : unsigned_abs (to_z w128 c.loop-group.spent-bits) ≤ 2 * weight (λ g. unsigned_abs (f g)) c.args.groups.now = sum_small f (to_z w128 c.loop-group.spent-bits) c.args.groups.now c.loop-group.group-index c.loop-group.invariant.spent in
    omega (arith, ints, here, past, told, c.requires.spent)

pub overflow_add-budgets : goal.overflow_add-budgets
overflow_add-budgets c =
    let f = kept_of_group c.args.cells.now c.args.number GroupBudget false in
    let told : c.group_amounts-more.result.budget ≡ f c.group-item.result = c.group_amounts-more.ensures.budget in
    let fits : SFits w128 c.group_amounts-more.result.budget = search rules in
    let here : unsigned_abs (f c.group-item.result) ≤ weight (λ g. unsigned_abs (f g)) c.args.groups.now = weight_here (λ g. unsigned_abs (f g)) c.args.groups.now c.loop-group.group-index c.group-item.result (omega arith) c.group-item.is in
    let past : unsigned_abs (to_z w128 c.loop-group.budgets-bits) ≤ 2 * weight (λ g. unsigned_abs (f g)) c.args.groups.now = sum_small f (to_z w128 c.loop-group.budgets-bits) c.args.groups.now c.loop-group.group-index c.loop-group.invariant.budgets in
    omega (arith, ints, here, past, told, c.requires.budgets)

pub overflow_add-leftover : goal.overflow_add-leftover
overflow_add-leftover c =
    let f = kept_of_group c.args.cells.now c.args.number GroupLeftover false in
    let told : c.group_amounts-more.result.leftover ≡ f c.group-item.result = c.group_amounts-more.ensures.leftover in
    let fits : SFits w128 c.group_amounts-more.result.leftover = search rules in
    let here : unsigned_abs (f c.group-item.result) ≤ weight (λ g. unsigned_abs (f g)) c.args.groups.now = weight_here (λ g. unsigned_abs (f g)) c.args.groups.now c.loop-group.group-index c.group-item.result (omega arith) c.group-item.is in
    let past : unsigned_abs (to_z w128 c.loop-group.leftover-bits) ≤ 2 * weight (λ g. unsigned_abs (f g)) c.args.groups.now = sum_small f (to_z w128 c.loop-group.leftover-bits) c.args.groups.now c.loop-group.group-index c.loop-group.invariant.leftover in
    omega (arith, ints, here, past, told, c.requires.leftover)

pub loop-group-preserved : goal.loop-group-preserved
loop-group-preserved c = record {
  spent =
      let f = kept_of_group c.args.cells.now c.args.number GroupSum false in
      let told : c.group_amounts-more.result.sum ≡ f c.group-item.result = c.group_amounts-more.ensures.sum in
      let fits : SFits w128 c.group_amounts-more.result.sum = search rules in
      let here : unsigned_abs (f c.group-item.result) ≤ weight (λ g. unsigned_abs (f g)) c.args.groups.now = weight_here (λ g. unsigned_abs (f g)) c.args.groups.now c.loop-group.group-index c.group-item.result (omega arith) c.group-item.is in
      let past : unsigned_abs (to_z w128 c.loop-group.spent-bits) ≤ 2 * weight (λ g. unsigned_abs (f g)) c.args.groups.now = sum_small f (to_z w128 c.loop-group.spent-bits) c.args.groups.now c.loop-group.group-index c.loop-group.invariant.spent in
      let turn : (to_z w128 c.loop-group.spent-bits +ℤ f c.group-item.result) +ℤ total f (drop (c.loop-group.group-index + 1) c.args.groups.now) ≡ total f c.args.groups.now = sum_turn f (to_z w128 c.loop-group.spent-bits) (total f c.args.groups.now) c.args.groups.now c.loop-group.group-index c.group-item.result (omega arith) c.group-item.is c.loop-group.invariant.spent in
      omega (arith, ints, here, past, turn, told, c.requires.spent);
  budgets =
      let f = kept_of_group c.args.cells.now c.args.number GroupBudget false in
      let told : c.group_amounts-more.result.budget ≡ f c.group-item.result = c.group_amounts-more.ensures.budget in
      let fits : SFits w128 c.group_amounts-more.result.budget = search rules in
      let here : unsigned_abs (f c.group-item.result) ≤ weight (λ g. unsigned_abs (f g)) c.args.groups.now = weight_here (λ g. unsigned_abs (f g)) c.args.groups.now c.loop-group.group-index c.group-item.result (omega arith) c.group-item.is in
      let past : unsigned_abs (to_z w128 c.loop-group.budgets-bits) ≤ 2 * weight (λ g. unsigned_abs (f g)) c.args.groups.now = sum_small f (to_z w128 c.loop-group.budgets-bits) c.args.groups.now c.loop-group.group-index c.loop-group.invariant.budgets in
      let turn : (to_z w128 c.loop-group.budgets-bits +ℤ f c.group-item.result) +ℤ total f (drop (c.loop-group.group-index + 1) c.args.groups.now) ≡ total f c.args.groups.now = sum_turn f (to_z w128 c.loop-group.budgets-bits) (total f c.args.groups.now) c.args.groups.now c.loop-group.group-index c.group-item.result (omega arith) c.group-item.is c.loop-group.invariant.budgets in
      omega (arith, ints, here, past, turn, told, c.requires.budgets);
  leftover =
      let f = kept_of_group c.args.cells.now c.args.number GroupLeftover false in
      let told : c.group_amounts-more.result.leftover ≡ f c.group-item.result = c.group_amounts-more.ensures.leftover in
      let fits : SFits w128 c.group_amounts-more.result.leftover = search rules in
      let here : unsigned_abs (f c.group-item.result) ≤ weight (λ g. unsigned_abs (f g)) c.args.groups.now = weight_here (λ g. unsigned_abs (f g)) c.args.groups.now c.loop-group.group-index c.group-item.result (omega arith) c.group-item.is in
      let past : unsigned_abs (to_z w128 c.loop-group.leftover-bits) ≤ 2 * weight (λ g. unsigned_abs (f g)) c.args.groups.now = sum_small f (to_z w128 c.loop-group.leftover-bits) c.args.groups.now c.loop-group.group-index c.loop-group.invariant.leftover in
      let turn : (to_z w128 c.loop-group.leftover-bits +ℤ f c.group-item.result) +ℤ total f (drop (c.loop-group.group-index + 1) c.args.groups.now) ≡ total f c.args.groups.now = sum_turn f (to_z w128 c.loop-group.leftover-bits) (total f c.args.groups.now) c.args.groups.now c.loop-group.group-index c.group-item.result (omega arith) c.group-item.is c.loop-group.invariant.leftover in
      omega (arith, ints, here, past, turn, told, c.requires.leftover);
}
