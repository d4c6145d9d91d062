-- Which months a grid covers.
use Rattle.std.specs.Prelude.{◌≡◌, ◌⊎◌, ◌↔◌, ℕ, ◌+◌, ◌≤◌, ◌<◌, true, None, Some}
use Rattle.book_rows.specs.declared.rows.Rows.{Rows}
use Rattle.book_rows.specs.Book.{HaveDays}
use Rattle.book_rows.specs.Laws.{HasRowIn}
use Rattle.book_rows.specs.Months.{is_month, window_of}
use Rattle.envelope_cells.specs.Ids.{month_number}
use Rattle.dirty_cells.specs.declared.grid.Grid.{Grid}
use Rattle.dirty_cells.specs.Stands.{is_covered, with_month, with_window}

-- a range has the month of a number: its end is the first month behind it
pub record HasMonth (range : ℕ × ℕ) (n : ℕ) : Type 0 where
  pub from : range.0 ≤ n
  pub before : n < range.1

-- each month of the one range is one of the other
abbrev pub LiesIn : ℕ × ℕ → ℕ × ℕ → Type 0
LiesIn a b = (n : ℕ) → HasMonth a n → HasMonth b n

-- of all ranges that have the months of a range and some more, the least: it lies in each of them
pub record IsLeastWith (range : ℕ × ℕ) (more : ℕ → Type 0) (new : ℕ × ℕ) : Type 0 where
  pub kept : LiesIn range new
  pub has : (n : ℕ) → more n → HasMonth new n
  pub least : (other : ℕ × ℕ) → LiesIn range other → ((n : ℕ) → more n → HasMonth other n) → LiesIn new other

-- a range has no months
abbrev pub HasNone : ℕ × ℕ → Type 0
HasNone range = (n : ℕ) → HasMonth range n → ⊥

-- a row of a book has the month of this number
abbrev pub HasRowAt : Rows → ℕ → Type 0
HasRowAt rows n = (month : ℕ) × HasRowIn rows month × (n ≡ month_number month)

pub record RangesAreLeast : Type 0 where
  -- the months that a grid covers are those whose numbers its range has
  pub covered : (grid : Grid) (month : ℕ) → (is_covered grid month ≡ true) ↔ ((is_month month ≡ true) × HasMonth (grid.first, grid.end) (month_number month))
  -- with a month that is asked for, the range is the least that has it too
  pub month : (range : ℕ × ℕ) (n : ℕ) → IsLeastWith range (λ m. m ≡ n) (with_month range n)
  -- with a window, the least that has its first and its last month, and where there is none, the range stays
  pub window : (range window : ℕ × ℕ) → IsLeastWith range (λ m. (m ≡ month_number window.0) ⊎ (m ≡ month_number window.1)) (with_window range (Some window))
  pub none : (range : ℕ × ℕ) → with_window range None ≡ range
  -- so with the window of a book it is the least that has the months of all its rows
  pub rows : (rows : Rows) (range : ℕ × ℕ) → HaveDays rows.txs → IsLeastWith range (HasRowAt rows) (with_window range (window_of rows))
  -- where no month was covered, it is the month alone, or the window
  pub alone : (range : ℕ × ℕ) (n : ℕ) → HasNone range → with_month range n ≡ (n, n + 1)
  pub only_window : (range window : ℕ × ℕ) → HasNone range → month_number window.0 ≤ month_number window.1
      → with_window range (Some window) ≡ (month_number window.0, month_number window.1 + 1)
