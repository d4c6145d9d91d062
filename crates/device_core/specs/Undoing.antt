-- What an undo and a redo leave, and why they are refused.
use Rattle.std.specs.Prelude.{◌≡◌, ℕ, ◌<◌, List, [], length, Some, Result, Ok, Err}
use Rattle.hybrid_clock.specs.declared.stamp.Stamp.{Stamp}
use Rattle.hybrid_clock.specs.declared.clock.ClockFault.{ClockFault}
use Rattle.hybrid_clock.specs.Clock.{draw}
use Rattle.field_merge.specs.Log.{value_in}
use Rattle.book_rows.specs.declared.fault.EditFault.{EditFault}
use Rattle.book_rows.specs.declared.fault.EditFault.TheVariants.{NothingToUndo, NothingToRedo}
use Rattle.edit_history.specs.declared.before.Before.{Before}
use Rattle.edit_history.specs.declared.history.Turn.{Turn}
use Rattle.edit_history.specs.declared.history.Turn.TheVariants.{Undo, Redo}
use Rattle.edit_history.specs.Undo.{undo_writes}
use Rattle.edit_history.specs.History.{latest_of, AreEntries}
use Rattle.edit_history.specs.Laws.{IsUndone}
use Rattle.device_core.specs.declared.edit.Edit.{Edit}
use Rattle.device_core.specs.declared.edit.LineRefusal.{LineRefusal}
use Rattle.device_core.specs.declared.edit.LineRefusal.TheVariants.{Edit as OfEdit, Clock as OfClock}
use Rattle.device_core.specs.Device.{State, Accepted, IsAhead, edited, undone, redone}
use Rattle.device_core.specs.Answering.{IsAcceptedAt}
use Rattle.device_core.specs.Several.{AreJoinedWrites}

-- the latest of these entries of a state is taken back at a reading of the wall clock, which is answered so
pub record IsTakenBack (s : State) (turn : Turn) (entries : List (List Before)) (fault_of_none : EditFault) (reading : ℕ) (answer : Result Accepted LineRefusal) : Type 0 where
  -- where there is no entry, it is refused for that
  pub none : entries ≡ [] → answer ≡ Err (OfEdit fault_of_none)
  -- else it is accepted where the clock draws a timestamp for each of the writes that undo the entry, and the clock then stands at the last
  pub accepted : (entry : List Before) (clock : Stamp) → latest_of entries ≡ Some entry → draw s.clock reading (length (undo_writes entry)) ≡ Ok clock → IsAcceptedAt answer clock
  -- where it draws none, it is refused for its fault
  pub no_stamp : (entry : List Before) (fault : ClockFault) → latest_of entries ≡ Some entry → draw s.clock reading (length (undo_writes entry)) ≡ Err fault → answer ≡ Err (OfClock fault)
  -- what is accepted has made the writes that undo the entry, and no others, whatever has come since the entry was made, where the clock is behind no message
  pub made : (entry : List Before) (after : Accepted) → IsAhead s.clock s.messages → latest_of entries ≡ Some entry → answer ≡ Ok after → AreJoinedWrites s turn (undo_writes entry) after

-- so it is with each undo and each redo, where the entries are valid
pub record EntriesAreTakenBack : Type 0 where
  pub undos : (s : State) (reading : ℕ) → AreEntries s.history → IsTakenBack s Undo s.history.undo NothingToUndo reading (undone s reading)
  pub redos : (s : State) (reading : ℕ) → AreEntries s.history → IsTakenBack s Redo s.history.redo NothingToRedo reading (redone s reading)

-- the values of fields before a line, after it, and after what takes it back
abbrev pub IsRestored : State → State → State → Type 0
IsRestored before after back = IsUndone (value_in before.messages) (value_in after.messages) (value_in back.messages)

-- what a line wrote over is restored, where it had writes, the clock was behind no message, and it is taken back right after it: an edit and a redo by an
-- undo, an undo by a redo
pub record LinesAreUndone : Type 0 where
  pub edits : (s : State) (edit : Edit) (reading later : ℕ) (after back : Accepted) → IsAhead s.clock s.messages → 0 < after.count →
      edited s edit reading ≡ Ok after → undone after.state later ≡ Ok back → IsRestored s after.state back.state
  pub undos : (s : State) (reading later : ℕ) (after back : Accepted) → IsAhead s.clock s.messages → 0 < after.count →
      undone s reading ≡ Ok after → redone after.state later ≡ Ok back → IsRestored s after.state back.state
  pub redos : (s : State) (reading later : ℕ) (after back : Accepted) → IsAhead s.clock s.messages → 0 < after.count →
      redone s reading ≡ Ok after → undone after.state later ≡ Ok back → IsRestored s after.state back.state
