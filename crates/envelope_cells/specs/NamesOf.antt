-- The names of the cells of a month, in the order of its sheet.
use Rattle.std.specs.Prelude.{ℕ, Bool, List, [], ◌∷◌, ◌++◌, if◌then◌else◌}
use Rattle.finite_sums.specs.Maps.{Text}
use Rattle.envelope_cells.specs.declared.groups.BudgetGroup.{BudgetGroup}
use Rattle.envelope_cells.specs.declared.name.CellName.{CellName}
use Rattle.envelope_cells.specs.declared.name.CellKind.{CellKind}
use Rattle.envelope_cells.specs.declared.name.CellKind.TheVariants.{TotalIncome, FromLastMonth, AvailableFunds, LastMonthOverspent, TotalBudgeted, Buffered, ToBudget, TotalSpent, TotalLeftover, GroupSum, GroupBudget, GroupLeftover, Sum, Budget as OfBudget, Carryover, Leftover}

-- the name of a cell of a month YYYYMM
abbrev pub name : ℕ → CellKind → Text → CellName
name month kind id = record { month = month; kind = kind; id = id }

-- those of the whole month, under an id
abbrev pub funds_names : ℕ → Text → List CellName
funds_names month id = name month TotalIncome id ∷ name month FromLastMonth id ∷ name month AvailableFunds id ∷ name month LastMonthOverspent id ∷ []

abbrev pub rest_names : ℕ → Text → List CellName
rest_names month id = name month TotalBudgeted id ∷ name month Buffered id ∷ name month ToBudget id ∷ name month TotalSpent id ∷ name month TotalLeftover id ∷ []

-- those of a category, whose group takes income or not
abbrev pub category_names : ℕ → Bool → Text → List CellName
category_names month is_income c = name month Sum c ∷ (if is_income then [] else name month OfBudget c ∷ name month Carryover c ∷ name month Leftover c ∷ [])

abbrev pub categories_names : ℕ → Bool → List Text → List CellName
categories_names month is_income [] = []
categories_names month is_income (c ∷ cs) = category_names month is_income c ++ categories_names month is_income cs

-- those of a group alone
abbrev pub group_names : ℕ → BudgetGroup → List CellName
group_names month g = name month GroupSum g.id ∷ (if g.is_income then [] else name month GroupBudget g.id ∷ name month GroupLeftover g.id ∷ [])

-- those of each group, followed by those of its categories
abbrev pub groups_names : ℕ → List BudgetGroup → List CellName
groups_names month [] = []
groups_names month (g ∷ gs) = (group_names month g ++ categories_names month g.is_income g.categories) ++ groups_names month gs

-- those of a month YYYYMM
abbrev pub names_of : List BudgetGroup → ℕ → List CellName
names_of gs month = funds_names month [] ++ rest_names month [] ++ groups_names month gs
