-- The sheet of a month: all its cells, in order.
use Rattle.std.specs.Prelude.{ℕ, Bool, ◌&&◌, ◌==◌, ℤ, List, [], ◌∷◌, ◌++◌, Option, Some, None, if◌then◌else◌}
use Rattle.std.specs.Ordering.{eq_by_cmp}
use Rattle.finite_sums.specs.Maps.{Text, text_cmp}
use Rattle.envelope_cells.specs.Budget.{Budget}
use Rattle.envelope_cells.specs.Cells.{total_income, total_spent, all_budgeted}
use Rattle.envelope_cells.specs.CellOf.{flag_value}
use Rattle.envelope_cells.specs.Ids.{month_number}
use Rattle.tracking_budget.specs.declared.live.LiveCategory.{LiveCategory}
use Rattle.tracking_budget.specs.declared.name.TrackCell.{TrackCell}
use Rattle.tracking_budget.specs.declared.name.TrackName.{TrackName}
use Rattle.tracking_budget.specs.declared.name.TrackKind.{TrackKind}
use Rattle.tracking_budget.specs.declared.name.TrackKind.TheVariants.{TotalIncome, TotalBudgetIncome, TotalBudgeted, TotalSpent, TotalLeftover, TotalSaved, RealSaved, Sum, Budget as OfBudget, Carryover, Leftover}
use Rattle.tracking_budget.specs.Tracked.{left, planned_income, expenses_left, total_saved, real_saved}
use Rattle.tracking_budget.specs.CellOf.{live_of}

-- a cell of a month YYYYMM
abbrev pub cell : ℕ → TrackKind → Text → ℤ → TrackCell
cell month kind id value = record { name = record { month = month; kind = kind; id = id }; value = value }

-- the cells of the whole month, which has number m
abbrev pub month_cells : Budget → ℕ → ℕ → List TrackCell
month_cells b month m =
    cell month TotalIncome [] (total_income b m) ∷ cell month TotalBudgetIncome [] (planned_income b m) ∷ cell month TotalBudgeted [] (all_budgeted b m)
    ∷ cell month TotalSpent [] (total_spent b m) ∷ cell month TotalLeftover [] (expenses_left b m) ∷ cell month TotalSaved [] (total_saved b m)
    ∷ cell month RealSaved [] (real_saved b m) ∷ []

-- the cells of a live category
abbrev pub category_cells : Budget → ℕ → ℕ → LiveCategory → List TrackCell
category_cells b month m l =
    cell month Sum l.id (b.category_sum l.id m) ∷ cell month OfBudget l.id (b.budgeted l.id m) ∷ cell month Carryover l.id (flag_value (b.carries l.id m))
    ∷ cell month Leftover l.id (left b l.is_income l.id m) ∷ []

abbrev pub live_cells : Budget → ℕ → ℕ → List LiveCategory → List TrackCell
live_cells b month m [] = []
live_cells b month m (l ∷ ls) = category_cells b month m l ++ live_cells b month m ls

-- the sheet of a month YYYYMM
abbrev pub track_cells : Budget → ℕ → List TrackCell
track_cells b month = month_cells b month (month_number month) ++ live_cells b month (month_number month) (live_of b.groups)

-- the place of a kind among all of them
abbrev pub kind_number : TrackKind → ℕ
kind_number TotalIncome = 0
kind_number TotalBudgetIncome = 1
kind_number TotalBudgeted = 2
kind_number TotalSpent = 3
kind_number TotalLeftover = 4
kind_number TotalSaved = 5
kind_number RealSaved = 6
kind_number Sum = 7
kind_number OfBudget = 8
kind_number Carryover = 9
kind_number Leftover = 10

-- two names are of one cell
abbrev pub is_same : TrackName → TrackName → Bool
is_same a b = (a.month == b.month) && ((kind_number a.kind == kind_number b.kind) && eq_by_cmp text_cmp a.id b.id)

-- the value of the first cell of a list that has the name
abbrev pub value_named : List TrackCell → TrackName → Option ℤ
value_named [] name = None
value_named (c ∷ cs) name = if is_same name c.name then Some c.value else value_named cs name
