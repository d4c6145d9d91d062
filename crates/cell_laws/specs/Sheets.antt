-- Which cells stand on a sheet of the tracking budget.
use Rattle.std.specs.Prelude.{◌≡◌, ◌≢◌, ◌↔◌, ℕ, true, false, List, ◌∷◌, ◌++◌, None, Some}
use Rattle.std.specs.List.{Contains}
use Rattle.book_rows.specs.declared.rows.Rows.{Rows}
use Rattle.tracking_budget.specs.declared.name.TrackCell.{TrackCell}
use Rattle.tracking_budget.specs.declared.name.TrackName.{TrackName}
use Rattle.tracking_budget.specs.Tracked.{tracked_of}
use Rattle.tracking_budget.specs.CellOf.{track_cell_of}
use Rattle.tracking_budget.specs.SheetOf.{track_cells, value_named, is_same}

-- the sheet of a month YYYYMM of a book
abbrev pub sheet : Rows → ℕ → List TrackCell
sheet rows month = track_cells (tracked_of rows) month

pub record SheetsHaveMonths : Type 0 where
  -- the cells on the sheet of a month are those that there are of this month, all of them, each with what it tells, and no other
  pub all : (rows : Rows) (month : ℕ) (c : TrackCell) → Contains (sheet rows month) c ↔ ((c.name.month ≡ month) × (track_cell_of (tracked_of rows) c.name ≡ Some c.value))
  -- none stands twice: behind a cell there is none of its name
  pub once : (rows : Rows) (month : ℕ) (front back : List TrackCell) (c d : TrackCell) → sheet rows month ≡ front ++ c ∷ back → Contains back d → d.name ≢ c.name
  -- a name of another month has no value on it
  pub others : (rows : Rows) (month : ℕ) (name : TrackName) → name.month ≢ month → value_named (sheet rows month) name ≡ None
  -- two names are of one cell exactly where month, kind and id are the same
  pub names : (a b : TrackName) → (is_same a b ≡ true) ↔ ((a.month ≡ b.month) × (a.kind ≡ b.kind) × (a.id ≡ b.id))
  -- so a name that differs in its month alone is of another cell
  pub months : (name : TrackName) (month : ℕ) → month ≢ name.month → is_same name (record name { month = month }) ≡ false
