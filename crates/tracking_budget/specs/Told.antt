-- What the cells of a category tell, how the cells of a whole month add up, and in which order cells stand.
use Rattle.std.specs.Prelude.{ℕ, ℤ, ◌≡◌, true, false, ◌++◌, pos, ◌+ℤ◌, ◌-ℤ◌, List, [], ◌∷◌, map, flat_map, unwrap_or, Option, None, Some, codes}
use Rattle.std.specs.Fmt.{signed_decimal}
use Rattle.std.specs.FinMap.{get}
use Rattle.finite_sums.specs.Sums.{total}
use Rattle.finite_sums.specs.Maps.{Text}
use Rattle.book_rows.specs.declared.rows.Rows.{Rows}
use Rattle.book_rows.specs.declared.rows.BudgetRow.{BudgetRow}
use Rattle.book_rows.specs.Ids.{budget_id}
use Rattle.book_rows.specs.Live.{is_live_category, is_income_category, is_expense_category}
use Rattle.envelope_cells.specs.Budget.{categories, income, expense}
use Rattle.envelope_cells.specs.BudgetOf.{budget_of, category_sum}
use Rattle.envelope_cells.specs.Ids.{month_number}
use Rattle.tracking_budget.specs.declared.name.TrackCell.{TrackCell}
use Rattle.tracking_budget.specs.declared.name.TrackName.{TrackName}
use Rattle.tracking_budget.specs.declared.name.TrackKind.{TrackKind}
use Rattle.tracking_budget.specs.declared.name.TrackKind.TheVariants.{TotalIncome, TotalBudgetIncome, TotalBudgeted, TotalSpent, TotalLeftover, TotalSaved, RealSaved, Sum, Budget as OfBudget, Carryover, Leftover}
use Rattle.tracking_budget.specs.Tracked.{tracked_of, left}
use Rattle.tracking_budget.specs.CellOf.{track_cell_of}
use Rattle.tracking_budget.specs.SheetOf.{track_cells, value_named}
use Rattle.tracking_budget.specs.Names.{kind_text, is_of_month, track_line}

-- the cell of a kind and an id in a month YYYYMM of a book, if there is one
abbrev pub track_at : Rows → ℕ → TrackKind → Text → Option ℤ
track_at rows month kind id = track_cell_of (tracked_of rows) (record { month = month; kind = kind; id = id })

-- the row of the tracking budget for a month YYYYMM and a category, by its id alone
abbrev pub row_for : Rows → ℕ → Text → Option BudgetRow
row_for rows month c = get rows.tracked (budget_id c month)

-- what the cells of a category tell in a month YYYYMM
pub record CategoriesAreTold (rows : Rows) (month : ℕ) (c : Text) : Type 0 where
  -- of a live category, what its transactions add up to, as in the envelope budget
  pub sum : is_live_category rows c ≡ true → track_at rows month Sum c ≡ Some (category_sum rows c month)
  -- what its row gives it and whether it carries over, as 1 or 0; without a row it is given 0 and doesn't carry over
  pub given : is_live_category rows c ≡ true → (row : BudgetRow) → row_for rows month c ≡ Some row → track_at rows month OfBudget c ≡ Some row.amount
  pub carries : is_live_category rows c ≡ true → (row : BudgetRow) → row_for rows month c ≡ Some row → row.carryover ≡ true → track_at rows month Carryover c ≡ Some (pos 1)
  pub drops : is_live_category rows c ≡ true → (row : BudgetRow) → row_for rows month c ≡ Some row → row.carryover ≡ false → track_at rows month Carryover c ≡ Some (pos 0)
  pub none_given : is_live_category rows c ≡ true → row_for rows month c ≡ None → track_at rows month OfBudget c ≡ Some (pos 0)
  pub none_carried : is_live_category rows c ≡ true → row_for rows month c ≡ None → track_at rows month Carryover c ≡ Some (pos 0)
  -- and what is left of it, by the side on which its group is now
  pub expense_left : is_expense_category rows c ≡ true → track_at rows month Leftover c ≡ Some (left (tracked_of rows) false c (month_number month))
  pub income_left : is_income_category rows c ≡ true → track_at rows month Leftover c ≡ Some (left (tracked_of rows) true c (month_number month))
  -- one that is not live has no cell
  pub none : is_live_category rows c ≡ false → (kind : TrackKind) → is_of_month kind ≡ false → track_at rows month kind c ≡ None

-- what a sheet tells of a kind and an id, or 0
abbrev pub told_of : Rows → ℕ → TrackKind → Text → ℤ
told_of rows month kind id = unwrap_or (value_named (track_cells (tracked_of rows) month) (record { month = month; kind = kind; id = id })) (pos 0)

-- the cells of the whole month on a sheet, from the other cells on it
pub record TotalsAddUp (rows : Rows) (month : ℕ) : Type 0 where
  pub came_in : told_of rows month TotalIncome [] ≡ total (told_of rows month Sum) (income (budget_of rows))
  pub planned : told_of rows month TotalBudgetIncome [] ≡ total (told_of rows month OfBudget) (income (budget_of rows))
  pub budgeted : told_of rows month TotalBudgeted [] ≡ total (told_of rows month OfBudget) (expense (budget_of rows))
  pub spent : told_of rows month TotalSpent [] ≡ total (told_of rows month Sum) (expense (budget_of rows))
  pub left : told_of rows month TotalLeftover [] ≡ total (told_of rows month Leftover) (expense (budget_of rows))
  pub to_save : told_of rows month TotalSaved [] ≡ told_of rows month TotalBudgetIncome [] -ℤ told_of rows month TotalBudgeted []
  pub saved : told_of rows month RealSaved [] ≡ told_of rows month TotalIncome [] +ℤ told_of rows month TotalSpent []

-- the names of the cells of a month that are of these kinds and of one id
abbrev pub names_of : ℕ → Text → List TrackKind → List TrackName
names_of month id kinds = map (λ kind. record { month = month; kind = kind; id = id }) kinds

-- which cells a whole month has, and a category
abbrev pub month_kinds : List TrackKind
month_kinds = TotalIncome ∷ TotalBudgetIncome ∷ TotalBudgeted ∷ TotalSpent ∷ TotalLeftover ∷ TotalSaved ∷ RealSaved ∷ []

abbrev pub category_kinds : List TrackKind
category_kinds = Sum ∷ OfBudget ∷ Carryover ∷ Leftover ∷ []

-- how a sheet is laid out
pub record TrackSheetsAreInOrder (rows : Rows) : Type 0 where
  -- the cells of the whole month stand first, and then those of one category after the other, as categories stand in the envelope budget
  pub cells : (month : ℕ)
      → map (λ c. c.name) (track_cells (tracked_of rows) month) ≡ names_of month [] month_kinds ++ flat_map (λ id. names_of month id category_kinds) (categories (budget_of rows))
  -- the line of a cell has the name of the kind, the id behind it, a blank and the number
  pub line : (c : TrackCell) → track_line c ≡ kind_text c.name.kind ++ c.name.id ++ codes " " ++ signed_decimal c.value
  -- and these are the names of the kinds
  pub month_names : map kind_text month_kinds
      ≡ codes "total-income" ∷ codes "total-budget-income" ∷ codes "total-budgeted" ∷ codes "total-spent" ∷ codes "total-leftover" ∷ codes "total-saved" ∷ codes "real-saved" ∷ []
  pub category_names : map kind_text category_kinds ≡ codes "sum-amount-" ∷ codes "budget-" ∷ codes "carryover-" ∷ codes "leftover-" ∷ []
