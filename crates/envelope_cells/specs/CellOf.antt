-- What each cell tells.
use Rattle.std.specs.Prelude.{ℕ, Bool, true, false, ℤ, pos, List, [], ◌∷◌, Option, Some, None, if◌then◌else◌}
use Rattle.std.specs.Ordering.{eq_by_cmp}
use Rattle.finite_sums.specs.Sums.{total}
use Rattle.finite_sums.specs.Maps.{Text, text_cmp, is_among}
use Rattle.envelope_cells.specs.Budget.{Budget, expense_groups, categories, expense}
use Rattle.envelope_cells.specs.declared.groups.BudgetGroup.{BudgetGroup}
use Rattle.envelope_cells.specs.Cells.{total_income, from_last_month, available_funds, last_month_overspent, total_budgeted, to_budget, total_spent, total_leftover, leftover}
use Rattle.envelope_cells.specs.Ids.{month_number}
use Rattle.envelope_cells.specs.declared.name.CellName.{CellName}
use Rattle.envelope_cells.specs.declared.name.CellKind.{CellKind}
use Rattle.envelope_cells.specs.declared.name.CellKind.TheVariants.{TotalIncome, FromLastMonth, AvailableFunds, LastMonthOverspent, TotalBudgeted, Buffered, ToBudget, TotalSpent, TotalLeftover, GroupSum, GroupBudget, GroupLeftover, Sum, Budget as OfBudget, Carryover, Leftover}

-- a cell of the whole month has the empty id
abbrev pub of_month : Text → ℤ → Option ℤ
of_month [] z = Some z
of_month (x ∷ xs) z = None

-- a cell of a category, which is one of some
abbrev pub of_category : List Text → Text → ℤ → Option ℤ
of_category cs id z = if is_among text_cmp cs id then Some z else None

-- the first of some groups that has the id
abbrev pub group_named : List BudgetGroup → Text → Option BudgetGroup
group_named [] id = None
group_named (g ∷ gs) id = if eq_by_cmp text_cmp id g.id then Some g else group_named gs id

-- a cell of a group adds up its categories
abbrev pub of_group : (Text → ℤ) → Option BudgetGroup → Option ℤ
of_group f None = None
of_group f (Some g) = Some (total f g.categories)

-- a flag as a number
abbrev pub flag_value : Bool → ℤ
flag_value b = if b then pos 1 else pos 0

-- what a cell of month m tells, if there is such a cell
abbrev pub value_of : Budget → ℕ → CellKind → Text → Option ℤ
value_of b m TotalIncome id = of_month id (total_income b m)
value_of b m FromLastMonth id = of_month id (from_last_month b m)
value_of b m AvailableFunds id = of_month id (available_funds b m)
value_of b m LastMonthOverspent id = of_month id (last_month_overspent b m)
value_of b m TotalBudgeted id = of_month id (total_budgeted b m)
value_of b m Buffered id = of_month id (b.buffered m)
value_of b m ToBudget id = of_month id (to_budget b m)
value_of b m TotalSpent id = of_month id (total_spent b m)
value_of b m TotalLeftover id = of_month id (total_leftover b m)
value_of b m GroupSum id = of_group (λ c. b.category_sum c m) (group_named b.groups id)
value_of b m GroupBudget id = of_group (λ c. b.budgeted c m) (group_named (expense_groups b) id)
value_of b m GroupLeftover id = of_group (λ c. leftover b c m) (group_named (expense_groups b) id)
value_of b m Sum id = of_category (categories b) id (b.category_sum id m)
value_of b m OfBudget id = of_category (expense b) id (b.budgeted id m)
value_of b m Carryover id = of_category (expense b) id (flag_value (b.carries id m))
value_of b m Leftover id = of_category (expense b) id (leftover b id m)

-- what a cell tells, if there is such a cell
abbrev pub cell_of : Budget → CellName → Option ℤ
cell_of b name = value_of b (month_number name.month) name.kind name.id

-- the kinds of the cells of categories: one of expenses has all four, one of income the first alone
abbrev pub is_of_category : CellKind → Bool
is_of_category Sum = true
is_of_category OfBudget = true
is_of_category Carryover = true
is_of_category Leftover = true
is_of_category other = false
