-- When a grid stands for the rows of a book.
use Rattle.std.specs.Prelude.{◌≡◌, ℕ, ◌+◌, ◌≤◌, Bool, true, ◌&&◌, ℤ, pos, ◌+ℤ◌, nat_lt, nat_le, min, max, [], Option, Some, None, unwrap_or, IfSome, if◌then◌else◌}
use Rattle.std.specs.FinMap as map
use Rattle.book_rows.specs.declared.rows.Rows.{Rows}
use Rattle.book_rows.specs.Months.{is_month, window_of}
use Rattle.envelope_cells.specs.Cells.{money}
use Rattle.envelope_cells.specs.CellOf.{cell_of}
use Rattle.envelope_cells.specs.BudgetOf.{budget_of, groups_of}
use Rattle.envelope_cells.specs.Ids.{month_number}
use Rattle.envelope_cells.specs.Parts.{AreSums}
use Rattle.envelope_cells.specs.declared.name.CellName.{CellName}
use Rattle.envelope_cells.specs.declared.name.CellKind.{CellKind}
use Rattle.envelope_cells.specs.declared.name.CellKind.TheVariants.{Buffered, ToBudget, TotalLeftover}
use Rattle.dirty_cells.specs.declared.grid.Grid.{Grid}

-- the month YYYYMM is one of those from number first on, before number end
abbrev pub is_between : ℕ → ℕ → ℕ → Bool
is_between first end month = is_month month && (nat_le first (month_number month) && nat_lt (month_number month) end)

-- the grid covers the month
abbrev pub is_covered : Grid → ℕ → Bool
is_covered grid month = is_between grid.first grid.end month

-- both months of a window are covered
abbrev pub HasWindow : ℕ → ℕ → Option (ℕ × ℕ) → Type 0
HasWindow first end window = IfSome window (λ w. (is_between first end w.0 ≡ true) × (is_between first end w.1 ≡ true))

-- the kept sums are those of all transactions; in each covered month the kept cells are exactly those of the book's budget, and no other cell is
-- kept; and the book's window is covered
pub record StandsFor (grid : Grid) (rows : Rows) : Type 0 where
  pub sums : AreSums grid.sums rows
  pub groups : grid.groups ≡ groups_of rows
  pub order : grid.first ≤ grid.end
  pub within : grid.end ≤ 2760
  pub cells : (name : CellName) → map.get grid.cells name ≡ (if is_covered grid name.month then cell_of (budget_of rows) name else None)
  pub window : HasWindow grid.first grid.end (window_of rows)

-- the least range of months, by number, that has those of a range and one month more. Where a range has no months, it is that month alone
abbrev pub with_month : ℕ × ℕ → ℕ → ℕ × ℕ
with_month range n = if nat_lt range.0 range.1 then (min range.0 n, max range.1 (n + 1)) else (n, n + 1)

-- the least range that has those of a range and a window of months YYYYMM
abbrev pub with_window : ℕ × ℕ → Option (ℕ × ℕ) → ℕ × ℕ
with_window range None = range
with_window range (Some w) = with_month (with_month range (month_number w.0)) (month_number w.1)

-- the range itself, or where it has no months, an empty one at a month
abbrev pub based : ℕ × ℕ → ℕ → ℕ × ℕ
based range n = if nat_lt range.0 range.1 then range else (n, n)

-- what is kept of a cell of the whole month, or 0
abbrev pub kept_whole : Grid → ℕ → CellKind → ℤ
kept_whole grid month kind = unwrap_or (map.get grid.cells (record { month = month; kind = kind; id = [] })) (pos 0)

-- the money law, of the kept cells of a month
abbrev pub KeepsMoney : Grid → Rows → ℕ → Type 0
KeepsMoney grid rows month = (kept_whole grid month ToBudget +ℤ kept_whole grid month Buffered) +ℤ kept_whole grid month TotalLeftover ≡ money (budget_of rows) (month_number month)
