use Rattle.std.proofs.Common.{◌≡◌, ◌+◌, not, ap, ap₂, sym, ◌∙◌, to_z, of_z, rules, arith}
use lib.IntN.{pos, ◌-ℤ◌}
use mir.Syntax.{w64, w128}
use mir.Val.{SFits}
use Rattle.std.proofs.lemmas.Int.{ints, to_z-of_z}
use Rattle.finite_sums.specs.Sums.{only_if}
use Rattle.envelope_cells.specs.BudgetOf.{budget_of}
use Rattle.envelope_cells.specs.Cells.{rolled}
use Rattle.envelope_cells.specs.Parts.{sums_before}
use Rattle.envelope_cells.proofs.Parts.{left_small, sums_small, weight_rises}
use Rattle.goal_templates.specs.Wanted.{carry}
use Rattle.goal_templates.specs.Allocation.{has_template}
use Rattle.goal_templates.proofs.ToShare.{out_from}
use Rattle.goal_templates.proofs.Wanting.{carry_small, budget_small}
use Rattle.goal_templates.proofs.money.left_out.Goals as goal

pub overflow_sub-kept : goal.overflow_sub-kept
overflow_sub-kept c =
    let b = budget_of c.args.book.now.rows in
    let id = c.args.id.now in
    let n = c.args.number in
    let moved : SFits w128 c.in_ok-past.past.moved = search rules in
    let left : SFits w128 c.in_ok-past.past.left = search rules in
    let fits : SFits w128 c.rolled_over.result = search rules in
    let is : c.rolled_over.result ≡ carry b n id = c.rolled_over.ensures.value ∙ ap₂ rolled c.in_ok-past.ensures.carries (to_z-of_z w128 c.in_ok-past.past.left left ∙ c.in_ok-past.ensures.left) in
    omega (arith, ints, moved, fits, is, c.in_ok-past.ensures.moved, sums_small b id n, carry_small b n id, weight_rises b id n (n + 1) (omega arith), c.requires.small)

pub returns-then-has_template : goal.returns-then-has_template
returns-then-has_template c =
    let b = budget_of c.args.book.now.rows in
    let id = c.args.id.now in
    let n = c.args.number in
    let moved : SFits w128 c.in_ok-past.past.moved = search rules in
    let left : SFits w128 c.in_ok-past.past.left = search rules in
    let fits : SFits w128 c.rolled_over.result = search rules in
    let is : c.rolled_over.result ≡ carry b n id = c.rolled_over.ensures.value ∙ ap₂ rolled c.in_ok-past.ensures.carries (to_z-of_z w128 c.in_ok-past.past.left left ∙ c.in_ok-past.ensures.left) in
    let none : only_if (not (has_template c.args.asked.now id)) (b.budgeted id n) ≡ pos 0 = ap (λ t. only_if (not t) (b.budgeted id n)) (sym c.has_template.ensures ∙ c.if-has_template.true) in
    omega (arith, ints, moved, fits, is, none, c.in_ok-past.ensures.moved, sums_small b id n, carry_small b n id, weight_rises b id n (n + 1) (omega arith), c.requires.small)

pub overflow_sub-result : goal.overflow_sub-result
overflow_sub-result c =
    let r = c.args.book.now.rows in
    let b = budget_of r in
    let id = c.args.id.now in
    let n = c.args.number in
    let moved : SFits w128 c.in_ok-past.past.moved = search rules in
    let left : SFits w128 c.in_ok-past.past.left = search rules in
    let fits : SFits w128 c.rolled_over.result = search rules in
    let given : SFits w64 c.in_ok-budget.budget = search rules in
    let wide : SFits w128 c.from.result = search rules in
    let is : c.rolled_over.result ≡ carry b n id = c.rolled_over.ensures.value ∙ ap₂ rolled c.in_ok-past.ensures.carries (to_z-of_z w128 c.in_ok-past.past.left left ∙ c.in_ok-past.ensures.left) in
    omega (arith, ints, moved, fits, given, wide, is, c.from.ensures, c.in_ok-budget.ensures, budget_small r c.requires.hand.sizes id n, c.in_ok-past.ensures.moved, sums_small b id n, carry_small b n id, weight_rises b id n (n + 1) (omega arith), c.requires.small)

pub returns : goal.returns
returns c =
    let b = budget_of c.args.book.now.rows in
    let id = c.args.id.now in
    let n = c.args.number in
    let moved : SFits w128 c.in_ok-past.past.moved = search rules in
    let left : SFits w128 c.in_ok-past.past.left = search rules in
    let fits : SFits w128 c.rolled_over.result = search rules in
    let given : SFits w64 c.in_ok-budget.budget = search rules in
    let wide : SFits w128 c.from.result = search rules in
    let is : c.rolled_over.result ≡ carry b n id = c.rolled_over.ensures.value ∙ ap₂ rolled c.in_ok-past.ensures.carries (to_z-of_z w128 c.in_ok-past.past.left left ∙ c.in_ok-past.ensures.left) in
    let kept : to_z w128 (of_z w128 (to_z w128 (of_z w128 c.in_ok-past.past.moved) -ℤ to_z w128 (of_z w128 c.rolled_over.result))) ≡ sums_before b id n -ℤ carry b n id =
    omega (arith, ints, moved, fits, is, c.in_ok-past.ensures.moved, sums_small b id n, carry_small b n id, weight_rises b id n (n + 1) (omega arith), c.requires.small) in
    let budget : to_z w128 (of_z w128 c.from.result) ≡ b.budgeted id n = omega (arith, ints, given, wide, c.from.ensures, c.in_ok-budget.ensures) in
    out_from b n c.args.asked.now id _ _ kept budget (sym c.has_template.ensures ∙ c.if-has_template.false) c.requires.small
