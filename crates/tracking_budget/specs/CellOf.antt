-- What each cell tells.
use Rattle.std.specs.Prelude.{ℕ, Bool, ℤ, List, [], ◌∷◌, ◌++◌, map, Option, Some, None, if◌then◌else◌}
use Rattle.std.specs.Ordering.{eq_by_cmp}
use Rattle.finite_sums.specs.Maps.{Text, text_cmp}
use Rattle.envelope_cells.specs.Budget.{Budget}
use Rattle.envelope_cells.specs.declared.groups.BudgetGroup.{BudgetGroup}
use Rattle.envelope_cells.specs.Cells.{total_income, total_spent, all_budgeted}
use Rattle.envelope_cells.specs.CellOf.{of_month, flag_value}
use Rattle.envelope_cells.specs.Ids.{month_number}
use Rattle.tracking_budget.specs.declared.live.LiveCategory.{LiveCategory}
use Rattle.tracking_budget.specs.declared.name.TrackName.{TrackName}
use Rattle.tracking_budget.specs.declared.name.TrackKind.{TrackKind}
use Rattle.tracking_budget.specs.declared.name.TrackKind.TheVariants.{TotalIncome, TotalBudgetIncome, TotalBudgeted, TotalSpent, TotalLeftover, TotalSaved, RealSaved, Sum, Budget as OfBudget, Carryover, Leftover}
use Rattle.tracking_budget.specs.Tracked.{left, planned_income, expenses_left, total_saved, real_saved}

-- the live categories in the order of the sheet, each with whether its group takes income
abbrev pub live_on : Bool → List Text → List LiveCategory
live_on is_income cs = map (λ c. record { id = c; is_income = is_income }) cs

abbrev pub live_of : List BudgetGroup → List LiveCategory
live_of [] = []
live_of (g ∷ gs) = live_on g.is_income g.categories ++ live_of gs

-- whether a category takes income, if it is one of them
abbrev pub side_of : List LiveCategory → Text → Option Bool
side_of [] id = None
side_of (l ∷ ls) id = if eq_by_cmp text_cmp id l.id then Some l.is_income else side_of ls id

-- a cell of a category, if it is live
abbrev pub of_live : Option Bool → (Bool → ℤ) → Option ℤ
of_live None f = None
of_live (Some is_income) f = Some (f is_income)

-- what a cell of month m tells, if there is such a cell
abbrev pub value_of : Budget → ℕ → TrackKind → Text → Option ℤ
value_of b m TotalIncome id = of_month id (total_income b m)
value_of b m TotalBudgetIncome id = of_month id (planned_income b m)
value_of b m TotalBudgeted id = of_month id (all_budgeted b m)
value_of b m TotalSpent id = of_month id (total_spent b m)
value_of b m TotalLeftover id = of_month id (expenses_left b m)
value_of b m TotalSaved id = of_month id (total_saved b m)
value_of b m RealSaved id = of_month id (real_saved b m)
value_of b m Sum id = of_live (side_of (live_of b.groups) id) (λ is_income. b.category_sum id m)
value_of b m OfBudget id = of_live (side_of (live_of b.groups) id) (λ is_income. b.budgeted id m)
value_of b m Carryover id = of_live (side_of (live_of b.groups) id) (λ is_income. flag_value (b.carries id m))
value_of b m Leftover id = of_live (side_of (live_of b.groups) id) (λ is_income. left b is_income id m)

-- what a cell of the tracking budget tells, if there is such a cell
abbrev pub track_cell_of : Budget → TrackName → Option ℤ
track_cell_of b name = value_of b (month_number name.month) name.kind name.id
