-- The cells of a whole month, from those of its groups and those of the month before.
use Rattle.std.proofs.Common.{◌≡◌, ℕ, zero, suc, List, [], ◌∷◌, refl, sym, ◌∙◌, arith}
use lib.IntN.{ℤ, pos, ◌+ℤ◌, ◌-ℤ◌}
use Rattle.std.proofs.lemmas.Int.{ints}
use Rattle.finite_sums.specs.Sums.{total}
use Rattle.finite_sums.specs.Maps.{Text}
use Rattle.finite_sums.proofs.Totals.{total-append, total-plus}
use Rattle.envelope_cells.specs.Budget.{Budget, categories_of, categories, expense, income_groups, expense_groups}
use Rattle.envelope_cells.specs.Cells.{leftover_before, money_before, from_last_month, last_month_overspent, all_budgeted, total_spent, total_income, total_leftover, leftover}
use Rattle.envelope_cells.specs.Parts.{IsPast, sums_before}
use Rattle.envelope_cells.proofs.Money.{all_left_before, leftovers_next, money_before_is, total_same, total_zero}
use Rattle.envelope_cells.specs.declared.groups.BudgetGroup.{BudgetGroup}
use Rattle.dirty_cells.specs.Grid.{nothing}

over_groups : (f : Text → ℤ) (gs : List BudgetGroup) → total f (categories_of gs) ≡ total (λ g. total f g.categories) gs
over_groups f [] = refl
over_groups f (g ∷ gs) = omega (arith, ints, total-append f g.categories (categories_of gs), over_groups f gs)

-- sums over all categories of a side are sums over its groups
pub income_of_groups : (b : Budget) (m : ℕ) → total_income b m ≡ total (λ g. total (λ c. b.category_sum c m) g.categories) (income_groups b)
income_of_groups b m = over_groups (λ c. b.category_sum c m) (income_groups b)

pub spent_of_groups : (b : Budget) (m : ℕ) → total_spent b m ≡ total (λ g. total (λ c. b.category_sum c m) g.categories) (expense_groups b)
spent_of_groups b m = over_groups (λ c. b.category_sum c m) (expense_groups b)

pub budgeted_of_groups : (b : Budget) (m : ℕ) → all_budgeted b m ≡ total (λ g. total (λ c. b.budgeted c m) g.categories) (expense_groups b)
budgeted_of_groups b m = over_groups (λ c. b.budgeted c m) (expense_groups b)

pub leftover_of_groups : (b : Budget) (m : ℕ) → total_leftover b m ≡ total (λ g. total (λ c. leftover b c m) g.categories) (expense_groups b)
leftover_of_groups b m = over_groups (λ c. leftover b c m) (expense_groups b)

-- what overspent categories take, without a look at the categories
pub overspent_of_totals : (b : Budget) (m : ℕ) → last_month_overspent b m ≡ ((all_budgeted b m +ℤ total_spent b m) +ℤ all_left_before b m) -ℤ total_leftover b m
overspent_of_totals b m = omega (arith, ints, leftovers_next b m)

-- ---- where nothing is left of the months before
moved_is : (b : Budget) (n : ℕ) → total (λ c. sums_before b c n) (categories b) ≡ money_before b n
moved_is b zero = total_zero (categories b)
moved_is b (suc m) = omega (arith, ints, moved_is b m, total-plus (λ c. sums_before b c m) (λ c. b.category_sum c m) (categories b))

pub quiet_left : (b : Budget) (n : ℕ) → ((c : Text) → IsPast b c n nothing) → all_left_before b n ≡ pos 0
quiet_left b n quiet = total_same (λ c. leftover_before b c n) (λ c. pos 0) (expense b) (λ c. sym ((quiet c).left)) ∙ total_zero (expense b)

pub quiet_from : (b : Budget) (n : ℕ) → ((c : Text) → IsPast b c n nothing) → from_last_month b n ≡ pos 0
quiet_from b n quiet =
    let moved : total (λ c. sums_before b c n) (categories b) ≡ pos 0 = total_same (λ c. sums_before b c n) (λ c. pos 0) (categories b) (λ c. sym ((quiet c).moved)) ∙ total_zero (categories b) in
    omega (arith, ints, money_before_is b n, moved_is b n, moved, quiet_left b n quiet)
