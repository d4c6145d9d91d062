-- What the tracking budget says of a month. Months are numbered from 0, which is January 1970; amounts are cents. Before January 1970 each cell is 0.
use Rattle.std.specs.Prelude.{ℕ, zero, suc, Bool, true, false, ℤ, pos, ◌+ℤ◌, ◌-ℤ◌, if◌then◌else◌}
use Rattle.std.specs.FinMap as map
use Rattle.finite_sums.specs.Sums.{total}
use Rattle.finite_sums.specs.Maps.{Text, value_or_zero, some_and}
use Rattle.book_rows.specs.declared.rows.Rows.{Rows}
use Rattle.book_rows.specs.Ids.{budget_id}
use Rattle.envelope_cells.specs.Ids.{month_at}
use Rattle.envelope_cells.specs.Budget.{Budget, income, expense}
use Rattle.envelope_cells.specs.BudgetOf.{category_sum, groups_of}
use Rattle.envelope_cells.specs.Cells.{carried_before, total_income, total_spent, all_budgeted}

-- what a category is to have in a month YYYYMM, which for income is what is to come in, and whether what it has left goes on to the next month.
-- Only the id of a row says of what it speaks
abbrev pub planned : Rows → Text → ℕ → ℤ
planned rows c month = value_or_zero (λ t. t.amount) (map.get rows.tracked (budget_id c month))

abbrev pub goes_on : Rows → Text → ℕ → Bool
goes_on rows c month = some_and (λ t. t.carryover) (map.get rows.tracked (budget_id c month))

-- the tracking budget of a book: its groups, categories and sums are those of the envelope budget, its amounts and flags are of its own rows, and nothing is held back
abbrev pub tracked_of : Rows → Budget
tracked_of rows = record {
  groups = groups_of rows;
  category_sum = λ c m. category_sum rows c (month_at m);
  budgeted = λ c m. planned rows c (month_at m);
  carries = λ c m. goes_on rows c (month_at m);
  buffered = λ m. pos 0;
}

-- what a month alone leaves of a category: expenses, whose sum is mostly negative, add to what the category is given; income takes from what was to come in
abbrev pub own : Bool → ℤ → ℤ → ℤ
own is_income given sum = if is_income then given -ℤ sum else given +ℤ sum

-- what of a leftover goes on to the next month: all of it where the category carries over, else nothing
abbrev pub kept : Bool → ℤ → ℤ
kept carries z = if carries then z else pos 0

-- the leftover of a category in the month before month n
abbrev pub left_before : Budget → Bool → Text → ℕ → ℤ
left_before b is_income c zero = pos 0
left_before b is_income c (suc m) = own is_income (b.budgeted c m) (b.category_sum c m) +ℤ kept (carried_before b c m) (left_before b is_income c m)

-- what comes to month m from the month before, and the leftover of month m
abbrev pub kept_in : Budget → Bool → Text → ℕ → ℤ
kept_in b is_income c m = kept (carried_before b c m) (left_before b is_income c m)

abbrev pub left : Budget → Bool → Text → ℕ → ℤ
left b is_income c m = left_before b is_income c (suc m)

-- the cells of the whole month. total_income, all_budgeted and total_spent are defined as in the envelope budget, of the amounts of this one
abbrev pub planned_income : Budget → ℕ → ℤ
planned_income b m = total (λ c. b.budgeted c m) (income b)

abbrev pub expenses_left : Budget → ℕ → ℤ
expenses_left b m = total (λ c. left b false c m) (expense b)

-- what is to be saved, and what was
abbrev pub total_saved : Budget → ℕ → ℤ
total_saved b m = planned_income b m -ℤ all_budgeted b m

abbrev pub real_saved : Budget → ℕ → ℤ
real_saved b m = total_income b m +ℤ total_spent b m

-- no cell: the leftovers of income
abbrev pub income_left : Budget → ℕ → ℤ
income_left b m = total (λ c. left b true c m) (income b)
