-- Which months are covered, and what it costs to keep their cells.
use Rattle.std.specs.Prelude.{ℕ, ◌+◌, ◌-◌, ◌≤◌, List}
use Rattle.field_merge.specs.declared.message.Message.{Message}
use Rattle.book_rows.specs.Months.{window_of}
use Rattle.dirty_cells.specs.Changes.{Change}
use Rattle.dirty_cells.specs.Bound.{bound}
use Rattle.dirty_cells.specs.Stands.{with_window}
use Rattle.device_core.specs.Books.{rows_of}
use Rattle.device_core.specs.Changes.{AreChangesOf}

-- the least range of months that has those of a range, and all in which the rows of messages stand
abbrev pub covered_by : ℕ × ℕ → List Message → ℕ × ℕ
covered_by range ms = with_window range (window_of (rows_of ms))

-- how many months a range has more than another
abbrev pub more_months : ℕ × ℕ → ℕ × ℕ → ℕ
more_months from to = (to.1 - to.0) - (from.1 - from.0)

-- from messages to others, and from a range of covered months to another, the steps are within the bound of the fields that changed
pub record IsWithin (old new : List Message) (from to : ℕ × ℕ) (before after : ℕ) : Type 0 where
  pub changes : List Change
  pub are : AreChangesOf old new changes
  pub within : after ≤ before + bound from.0 from.1 (rows_of old) (rows_of new) changes (more_months from to)
