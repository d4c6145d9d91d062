-- The values of a month's cells. Before January 1970 each of them is 0, and nothing is carried over.
use Rattle.std.specs.Prelude.{ℕ, zero, suc, Bool, false, ℤ, pos, neg_ℤ, ◌+ℤ◌, ◌-ℤ◌, if◌then◌else◌}
use Rattle.std.specs.Int.{int_max, int_min}
use Rattle.finite_sums.specs.Sums.{total}
use Rattle.finite_sums.specs.Maps.{Text}
use Rattle.envelope_cells.specs.Budget.{Budget, categories, income, expense}

-- what of a leftover goes on to the next month in its category, and what of it is taken from the next month's money
abbrev pub rolled : Bool → ℤ → ℤ
rolled carries z = if carries then z else int_max (pos 0) z

abbrev pub taken : Bool → ℤ → ℤ
taken carries z = if carries then pos 0 else int_min (pos 0) z

-- of the month before month n: whether a category carries over, and what is held back
abbrev pub carried_before : Budget → Text → ℕ → Bool
carried_before b c zero = false
carried_before b c (suc m) = b.carries c m

abbrev pub buffered_before : Budget → ℕ → ℤ
buffered_before b zero = pos 0
buffered_before b (suc m) = b.buffered m

-- the leftover of a category in the month before month n
abbrev pub leftover_before : Budget → Text → ℕ → ℤ
leftover_before b c zero = pos 0
leftover_before b c (suc m) = (b.budgeted c m +ℤ b.category_sum c m) +ℤ rolled (carried_before b c m) (leftover_before b c m)

-- the leftover of a category in month m
abbrev pub leftover : Budget → Text → ℕ → ℤ
leftover b c m = leftover_before b c (suc m)

-- what an overspent category takes from the money of month m
abbrev pub taken_from : Budget → Text → ℕ → ℤ
taken_from b c m = taken (carried_before b c m) (leftover_before b c m)

-- the cells of month m that add up categories
abbrev pub total_income : Budget → ℕ → ℤ
total_income b m = total (λ c. b.category_sum c m) (income b)

abbrev pub last_month_overspent : Budget → ℕ → ℤ
last_month_overspent b m = total (λ c. taken_from b c m) (expense b)

abbrev pub all_budgeted : Budget → ℕ → ℤ
all_budgeted b m = total (λ c. b.budgeted c m) (expense b)

abbrev pub total_budgeted : Budget → ℕ → ℤ
total_budgeted b m = neg_ℤ (all_budgeted b m)

abbrev pub total_spent : Budget → ℕ → ℤ
total_spent b m = total (λ c. b.category_sum c m) (expense b)

abbrev pub total_leftover : Budget → ℕ → ℤ
total_leftover b m = total (λ c. leftover b c m) (expense b)

-- what is still to budget in the month before month n
abbrev pub to_budget_before : Budget → ℕ → ℤ
to_budget_before b zero = pos 0
to_budget_before b (suc m) = (((total_income b m +ℤ (to_budget_before b m +ℤ buffered_before b m)) +ℤ last_month_overspent b m) +ℤ total_budgeted b m) -ℤ b.buffered m

-- the cells of month m that are made of others
abbrev pub to_budget : Budget → ℕ → ℤ
to_budget b m = to_budget_before b (suc m)

abbrev pub from_last_month : Budget → ℕ → ℤ
from_last_month b m = to_budget_before b m +ℤ buffered_before b m

abbrev pub available_funds : Budget → ℕ → ℤ
available_funds b m = total_income b m +ℤ from_last_month b m

-- what the transactions of live categories add up to in the months before month n
abbrev pub money_before : Budget → ℕ → ℤ
money_before b zero = pos 0
money_before b (suc m) = money_before b m +ℤ total (λ c. b.category_sum c m) (categories b)

-- the same in the months up to month m
abbrev pub money : Budget → ℕ → ℤ
money b m = money_before b (suc m)
