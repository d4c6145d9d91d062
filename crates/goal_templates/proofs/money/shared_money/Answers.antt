use Rattle.std.proofs.Common.{◌≡◌, ◌+◌, ◌*◌, ◌^◌, ◌≤◌, List, sym, ap, ◌∙◌, subst, unsigned_abs, rules, arith, [], ℕ}
use lib.IntN.{ℤ, ◌+ℤ◌, ◌-ℤ◌}
use mir.Syntax.{w64, w128}
use mir.Val.{SFits}
use Rattle.std.proofs.lemmas.Int.{ints}
use Rattle.finite_sums.specs.Sums.{total, weight}
use Rattle.finite_sums.specs.Maps.{Text}
use Rattle.envelope_cells.specs.Budget.{income, expense}
use Rattle.envelope_cells.specs.BudgetOf.{budget_of}
use Rattle.envelope_cells.specs.Parts.{weight_before}
use Rattle.goal_templates.specs.Money.{came_in, left_out, money_from}
use Rattle.goal_templates.proofs.Sizes.{income_until, expense_until}
use Rattle.goal_templates.proofs.ToShare.{all_came_small, all_out_small, money_is}
use Rattle.goal_templates.proofs.money.shared_money.Goals as goal

pub all_came_in-requires-clause-small : goal.all_came_in-requires-clause-small
all_came_in-requires-clause-small c =
    let r = c.args.book.now.rows in
    let P = λ (cs : List Text). weight (λ q. weight_before (budget_of r) q (c.args.number + 1)) cs ≤ 2 ^ 118 in
    subst P (sym c.requires.incomes) (income_until r c.args.number c.requires.hand.valid c.requires.hand.sizes)

pub all_left_out-requires-clause-small : goal.all_left_out-requires-clause-small
all_left_out-requires-clause-small c =
    let r = c.args.book.now.rows in
    let P = λ (cs : List Text). weight (λ q. weight_before (budget_of r) q (c.args.number + 1)) cs ≤ 2 ^ 118 in
    subst P (sym c.requires.expenses) (expense_until r c.args.number c.requires.hand.valid c.requires.hand.sizes)

pub overflow_add-result : goal.overflow_add-result
overflow_add-result c =
    let r = c.args.book.now.rows in
    let b = budget_of r in
    let n = c.args.number in
    let first : SFits w128 c.in_ok-came.came = search rules in
    let second : SFits w128 c.in_ok-left.left = search rules in
    let came : c.in_ok-came.came ≡ total (came_in b n) (income b) = c.in_ok-came.ensures ∙ ap (total (came_in b n)) c.requires.incomes in
    let left : c.in_ok-left.left ≡ total (left_out b n c.args.asked.now) (expense b) = c.in_ok-left.ensures ∙ ap (total (left_out b n c.args.asked.now)) c.requires.expenses in
    omega (arith, ints, first, second, came, left, all_came_small r n c.requires.hand.valid c.requires.hand.sizes, all_out_small r n c.args.asked.now c.requires.hand.valid c.requires.hand.sizes)

pub overflow_sub-result : goal.overflow_sub-result
overflow_sub-result c =
    let r = c.args.book.now.rows in
    let b = budget_of r in
    let n = c.args.number in
    let first : SFits w128 c.in_ok-came.came = search rules in
    let second : SFits w128 c.in_ok-left.left = search rules in
    let third : SFits w64 c.in_ok-held.held = search rules in
    let wide : SFits w128 c.from.result = search rules in
    let came : c.in_ok-came.came ≡ total (came_in b n) (income b) = c.in_ok-came.ensures ∙ ap (total (came_in b n)) c.requires.incomes in
    let left : c.in_ok-left.left ≡ total (left_out b n c.args.asked.now) (expense b) = c.in_ok-left.ensures ∙ ap (total (left_out b n c.args.asked.now)) c.requires.expenses in
    omega (arith, ints, first, second, third, wide, came, left, c.from.ensures, all_came_small r n c.requires.hand.valid c.requires.hand.sizes, all_out_small r n c.args.asked.now c.requires.hand.valid c.requires.hand.sizes)

pub returns-clause-value : goal.returns-clause-value
returns-clause-value c =
    let r = c.args.book.now.rows in
    let b = budget_of r in
    let n = c.args.number in
    let first : SFits w128 c.in_ok-came.came = search rules in
    let second : SFits w128 c.in_ok-left.left = search rules in
    let third : SFits w64 c.in_ok-held.held = search rules in
    let wide : SFits w128 c.from.result = search rules in
    let came : c.in_ok-came.came ≡ total (came_in b n) (income b) = c.in_ok-came.ensures ∙ ap (total (came_in b n)) c.requires.incomes in
    let left : c.in_ok-left.left ≡ total (left_out b n c.args.asked.now) (expense b) = c.in_ok-left.ensures ∙ ap (total (left_out b n c.args.asked.now)) c.requires.expenses in
    omega (arith, ints, first, second, third, wide, came, left, c.from.ensures, c.in_ok-held.ensures, money_is b n c.args.asked.now, all_came_small r n c.requires.hand.valid c.requires.hand.sizes, all_out_small r n c.args.asked.now c.requires.hand.valid c.requires.hand.sizes)

pub returns-clause-small : goal.returns-clause-small
returns-clause-small c =
    let r = c.args.book.now.rows in
    let b = budget_of r in
    let n = c.args.number in
    let first : SFits w128 c.in_ok-came.came = search rules in
    let second : SFits w128 c.in_ok-left.left = search rules in
    let third : SFits w64 c.in_ok-held.held = search rules in
    let wide : SFits w128 c.from.result = search rules in
    let came : c.in_ok-came.came ≡ total (came_in b n) (income b) = c.in_ok-came.ensures ∙ ap (total (came_in b n)) c.requires.incomes in
    let left : c.in_ok-left.left ≡ total (left_out b n c.args.asked.now) (expense b) = c.in_ok-left.ensures ∙ ap (total (left_out b n c.args.asked.now)) c.requires.expenses in
    omega (arith, ints, first, second, third, wide, came, left, c.from.ensures, all_came_small r n c.requires.hand.valid c.requires.hand.sizes, all_out_small r n c.args.asked.now c.requires.hand.valid c.requires.hand.sizes)
