-- The sheet of a month: all its cells, in order.
use Rattle.std.specs.Prelude.{ℕ, Bool, ℤ, List, [], ◌∷◌, ◌++◌, Option, Some, None, if◌then◌else◌}
use Rattle.std.specs.Ordering.{eq_by_cmp}
use Rattle.finite_sums.specs.Sums.{total}
use Rattle.finite_sums.specs.Maps.{Text}
use Rattle.envelope_cells.specs.Budget.{Budget}
use Rattle.envelope_cells.specs.declared.groups.BudgetGroup.{BudgetGroup}
use Rattle.envelope_cells.specs.Cells.{total_income, from_last_month, available_funds, last_month_overspent, total_budgeted, to_budget, total_spent, total_leftover, leftover}
use Rattle.envelope_cells.specs.Ids.{month_number}
use Rattle.envelope_cells.specs.Names.{cell_cmp}
use Rattle.envelope_cells.specs.CellOf.{flag_value}
use Rattle.envelope_cells.specs.declared.name.Cell.{Cell}
use Rattle.envelope_cells.specs.declared.name.CellName.{CellName}
use Rattle.envelope_cells.specs.declared.name.CellKind.{CellKind}
use Rattle.envelope_cells.specs.declared.name.CellKind.TheVariants.{TotalIncome, FromLastMonth, AvailableFunds, LastMonthOverspent, TotalBudgeted, Buffered, ToBudget, TotalSpent, TotalLeftover, GroupSum, GroupBudget, GroupLeftover, Sum, Budget as OfBudget, Carryover, Leftover}

-- a cell of a month YYYYMM
abbrev pub cell : ℕ → CellKind → Text → ℤ → Cell
cell month kind id value = record { name = record { month = month; kind = kind; id = id }; value = value }

-- the cells of the whole month, which has number m
abbrev pub month_cells : Budget → ℕ → ℕ → List Cell
month_cells b month m =
    cell month TotalIncome [] (total_income b m) ∷ cell month FromLastMonth [] (from_last_month b m) ∷ cell month AvailableFunds [] (available_funds b m)
    ∷ cell month LastMonthOverspent [] (last_month_overspent b m) ∷ cell month TotalBudgeted [] (total_budgeted b m) ∷ cell month Buffered [] (b.buffered m)
    ∷ cell month ToBudget [] (to_budget b m) ∷ cell month TotalSpent [] (total_spent b m) ∷ cell month TotalLeftover [] (total_leftover b m) ∷ []

-- the cells of a category, whose group takes income or not
abbrev pub category_cells : Budget → ℕ → ℕ → Bool → Text → List Cell
category_cells b month m is_income c =
    cell month Sum c (b.category_sum c m)
    ∷ (if is_income then [] else cell month OfBudget c (b.budgeted c m) ∷ cell month Carryover c (flag_value (b.carries c m)) ∷ cell month Leftover c (leftover b c m) ∷ [])

abbrev pub categories_cells : Budget → ℕ → ℕ → Bool → List Text → List Cell
categories_cells b month m is_income [] = []
categories_cells b month m is_income (c ∷ cs) = category_cells b month m is_income c ++ categories_cells b month m is_income cs

-- the cells of a group alone
abbrev pub group_cells : Budget → ℕ → ℕ → BudgetGroup → List Cell
group_cells b month m g =
    cell month GroupSum g.id (total (λ c. b.category_sum c m) g.categories)
    ∷ (if g.is_income then [] else cell month GroupBudget g.id (total (λ c. b.budgeted c m) g.categories) ∷ cell month GroupLeftover g.id (total (λ c. leftover b c m) g.categories) ∷ [])

-- each group, followed by its categories
abbrev pub groups_cells : Budget → ℕ → ℕ → List BudgetGroup → List Cell
groups_cells b month m [] = []
groups_cells b month m (g ∷ gs) = (group_cells b month m g ++ categories_cells b month m g.is_income g.categories) ++ groups_cells b month m gs

-- the sheet of a month YYYYMM
abbrev pub sheet_of : Budget → ℕ → List Cell
sheet_of b month = month_cells b month (month_number month) ++ groups_cells b month (month_number month) b.groups

-- the value of the first cell of a list that has the name
abbrev pub value_named : List Cell → CellName → Option ℤ
value_named [] name = None
value_named (c ∷ cs) name = if eq_by_cmp cell_cmp name c.name then Some c.value else value_named cs name
