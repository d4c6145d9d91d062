-- What the laws say.
use Rattle.std.specs.Prelude.{ℕ, ◌≡◌, ◌+◌, ◌++◌, true, false, ◌+ℤ◌, ◌-ℤ◌, [], Some}
use Rattle.finite_sums.specs.Sums.{total}
use Rattle.finite_sums.specs.Maps.{Text, Texts}
use Rattle.book_rows.specs.declared.rows.Rows.{Rows}
use Rattle.book_rows.specs.declared.rows.BudgetRow.{BudgetRow}
use Rattle.book_rows.specs.declared.rows.MonthRow.{MonthRow}
use Rattle.envelope_cells.specs.Budget.{Budget, income, expense}
use Rattle.envelope_cells.specs.BudgetOf.{budget_of}
use Rattle.envelope_cells.specs.CellOf.{cell_of}
use Rattle.envelope_cells.specs.SheetOf.{sheet_of}
use Rattle.envelope_cells.specs.declared.name.CellName.{CellName}
use Rattle.tracking_budget.specs.declared.name.TrackName.{TrackName}
use Rattle.tracking_budget.specs.declared.name.TrackKind.{TrackKind}
use Rattle.tracking_budget.specs.Tracked.{tracked_of, left, kept_in, expenses_left, income_left, total_saved, real_saved}
use Rattle.tracking_budget.specs.CellOf.{track_cell_of}
use Rattle.tracking_budget.specs.SheetOf.{track_cells, value_named}
use Rattle.tracking_budget.specs.Names.{kind_text, is_of_month, track_named}

-- what a leftover is made of: the month's own amounts, and with the flag of the month before what that month left
pub record FlagsAloneCarry (b : Budget) (c : Text) : Type 0 where
  -- an expense category has what it is given, and what its transactions add up to
  pub first : left b false c 0 ≡ b.budgeted c 0 +ℤ b.category_sum c 0
  pub flagged : (m : ℕ) → b.carries c m ≡ true → left b false c (m + 1) ≡ (b.budgeted c (m + 1) +ℤ b.category_sum c (m + 1)) +ℤ left b false c m
  pub unflagged : (m : ℕ) → b.carries c m ≡ false → left b false c (m + 1) ≡ b.budgeted c (m + 1) +ℤ b.category_sum c (m + 1)
  -- of income there is left what was to come in, less what came in
  pub income_first : left b true c 0 ≡ b.budgeted c 0 -ℤ b.category_sum c 0
  pub income_flagged : (m : ℕ) → b.carries c m ≡ true → left b true c (m + 1) ≡ (b.budgeted c (m + 1) -ℤ b.category_sum c (m + 1)) +ℤ left b true c m
  pub income_unflagged : (m : ℕ) → b.carries c m ≡ false → left b true c (m + 1) ≡ b.budgeted c (m + 1) -ℤ b.category_sum c (m + 1)

-- what was saved beyond the plan is what expenses left of the month's own, less what income left of the month's own
abbrev pub SavedMoneyIsTold : Type 0
SavedMoneyIsTold = (b : Budget) (m : ℕ)
    → real_saved b m -ℤ total_saved b m
    ≡ (expenses_left b m -ℤ total (λ c. kept_in b false c m) (expense b)) -ℤ (income_left b m -ℤ total (λ c. kept_in b true c m) (income b))

-- the budgets don't touch each other
pub record BudgetsAreApart (rows : Rows) : Type 0 where
  -- whatever the rows of the tracking budget are, the envelope budget has the same sheets and cells
  pub envelope_sheet : (tracked : Texts BudgetRow) (month : ℕ) → sheet_of (budget_of (record rows { tracked = tracked })) month ≡ sheet_of (budget_of rows) month
  pub envelope_cell : (tracked : Texts BudgetRow) (name : CellName) → cell_of (budget_of (record rows { tracked = tracked })) name ≡ cell_of (budget_of rows) name
  -- and whatever the rows of the envelope budget are, the tracking budget has the same ones
  pub track_sheet : (budgets : Texts BudgetRow) (months : Texts MonthRow) (month : ℕ) → track_cells (tracked_of (record rows { budgets = budgets; months = months })) month ≡ track_cells (tracked_of rows) month
  pub track_cell : (budgets : Texts BudgetRow) (months : Texts MonthRow) (name : TrackName) → track_cell_of (tracked_of (record rows { budgets = budgets; months = months })) name ≡ track_cell_of (tracked_of rows) name

-- a name of its month has on a sheet the value that its cell has, and stands on none where it has no cell
abbrev pub TrackSheetsTellCells : Type 0
TrackSheetsTellCells = (b : Budget) (name : TrackName) → value_named (track_cells b name.month) name ≡ track_cell_of b name

-- the text of a kind and an id behind it name that cell, where a kind of the whole month has no id; and no other text names one
pub record TrackNamesAreRead : Type 0 where
  pub read : (month : ℕ) (kind : TrackKind) (id : Text) → (is_of_month kind ≡ true → id ≡ []) → track_named month (kind_text kind ++ id) ≡ Some (record { month = month; kind = kind; id = id })
  pub told : (month : ℕ) (text : Text) (name : TrackName) → track_named month text ≡ Some name → (name.month ≡ month) × (kind_text name.kind ++ name.id ≡ text) × (is_of_month name.kind ≡ true → name.id ≡ [])
