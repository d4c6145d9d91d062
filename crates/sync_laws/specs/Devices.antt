-- With what a device begins, and what an edit is answered, by the writes that its kind makes of it.
use Rattle.std.specs.Prelude.{◌≡◌, ℕ, ◌-◌, ◌<◌, ◌≤◌, List, [], ◌∷◌, length, map, Result, Ok, Err}
use Rattle.std.specs.List.{AllByRecursion}
use Rattle.hybrid_clock.specs.declared.stamp.Stamp.{Stamp}
use Rattle.hybrid_clock.specs.declared.clock.ClockFault.{ClockFault}
use Rattle.hybrid_clock.specs.Clock.{draw}
use Rattle.field_merge.specs.declared.message.Message.{Message}
use Rattle.book_rows.specs.declared.fault.EditFault.{EditFault}
use Rattle.book_rows.specs.declared.fault.EditFault.TheVariants.{NothingToUndo, NothingToRedo}
use Rattle.book_rows.specs.declared.write.Write.{Write}
use Rattle.book_edits.specs.declared.edit.BookEdit.{BookEdit}
use Rattle.book_edits.specs.Edits.{book_writes}
use Rattle.split_transfer.specs.declared.edit.PairEdit.{PairEdit}
use Rattle.split_transfer.specs.Edits.{pair_writes}
use Rattle.rule_engine.specs.declared.edit.RuleEdit.{RuleEdit}
use Rattle.rule_engine.specs.Edits.{rule_writes}
use Rattle.schedules.specs.declared.edit.ScheduleEdit.{ScheduleEdit}
use Rattle.schedules.specs.Edits.{schedule_writes}
use Rattle.bank_import.specs.declared.edit.ImportEdit.{ImportEdit}
use Rattle.bank_import.specs.Edits.{import_writes}
use Rattle.goal_templates.specs.Goals.{goal_writes}
use Rattle.edit_history.specs.declared.history.Turn.{Turn}
use Rattle.edit_history.specs.declared.history.Turn.TheVariants.{New}
use Rattle.device_core.specs.declared.edit.Edit.{Edit}
use Rattle.device_core.specs.declared.edit.Edit.TheVariants.{Book, Pair, Rule, Schedule, Import, GoalsApply}
use Rattle.device_core.specs.declared.edit.LineRefusal.TheVariants.{Edit as OfEdit, Clock as OfClock}
use Rattle.device_core.specs.Books.{rows_of}
use Rattle.device_core.specs.Device.{State, Accepted, IsAhead, at_rest, accepted_as, begun, writing, edited, undone, redone}
use Rattle.device_core.specs.Placing.{stamp_at, id_at}
use Rattle.device_core.specs.Answering.{IsAcceptedAt}
use Rattle.device_core.specs.Several.{AreJoinedWrites}

-- a device that begins has nothing to undo or to redo, so an undo and a redo are refused for that
pub record BeginsAnew (s : State) : Type 0 where
  pub no_undo : s.history.undo ≡ []
  pub no_redo : s.history.redo ≡ []
  pub undo : (reading : ℕ) → undone s reading ≡ Err (OfEdit NothingToUndo)
  pub redo : (reading : ℕ) → redone s reading ≡ Err (OfEdit NothingToRedo)

abbrev pub DevicesBeginAnew : Type 0
DevicesBeginAnew = (node : List ℕ) (ms : List Message) → BeginsAnew (begun node ms)

-- what an edit is answered of which these writes are to be made
pub record IsAnsweredBy (s : State) (edit : Edit) (reading : ℕ) (meant : Result (List Write) EditFault) : Type 0 where
  -- the refusal of its checks is told
  pub refused : (fault : EditFault) → meant ≡ Err fault → edited s edit reading ≡ Err (OfEdit fault)
  -- without writes it is accepted, and all stays
  pub none : meant ≡ Ok [] → edited s edit reading ≡ Ok (accepted_as (at_rest s) 0)
  -- with at most 65,536 it is accepted where the clock draws a timestamp for each, and else refused for the fault of the clock
  pub accepted : (w : Write) (ws : List Write) (clock : Stamp) → meant ≡ Ok (w ∷ ws) → length (w ∷ ws) ≤ 65_536 → draw s.clock reading (length (w ∷ ws)) ≡ Ok clock → IsAcceptedAt (edited s edit reading) clock
  pub no_stamp : (w : Write) (ws : List Write) (fault : ClockFault) → meant ≡ Ok (w ∷ ws) → length (w ∷ ws) ≤ 65_536 → draw s.clock reading (length (w ∷ ws)) ≡ Err fault → edited s edit reading ≡ Err (OfClock fault)
  -- and what is accepted has made these writes, where the clock was behind no message
  pub made : (w : Write) (ws : List Write) (after : Accepted) → IsAhead s.clock s.messages → meant ≡ Ok (w ∷ ws) → edited s edit reading ≡ Ok after → AreJoinedWrites s New (w ∷ ws) after

-- each kind of edit is answered by the writes of its kind, in the book of the messages
pub record EditsAreOfTheirKind : Type 0 where
  pub books : (s : State) (edit : BookEdit) (reading : ℕ) → IsAnsweredBy s (Book edit) reading (book_writes (rows_of s.messages) edit)
  pub pairs : (s : State) (edit : PairEdit) (reading : ℕ) → IsAnsweredBy s (Pair edit) reading (pair_writes (rows_of s.messages) edit)
  pub rules : (s : State) (edit : RuleEdit) (reading : ℕ) → IsAnsweredBy s (Rule edit) reading (rule_writes (rows_of s.messages) edit)
  pub schedules : (s : State) (edit : ScheduleEdit) (reading : ℕ) → IsAnsweredBy s (Schedule edit) reading (schedule_writes (rows_of s.messages) edit)
  pub imports : (s : State) (edit : ImportEdit) (reading : ℕ) → IsAnsweredBy s (Import edit) reading (import_writes (rows_of s.messages) edit)
  pub goals : (s : State) (month reading : ℕ) → IsAnsweredBy s (GoalsApply month) reading (goal_writes (rows_of s.messages) month)

-- each number is smaller than those behind it
abbrev pub Climb : List ℕ → Type 0
Climb [] = Unit {0}
Climb (n ∷ ns) = AllByRecursion (λ m. n < m) ns × Climb ns

-- the ids that accepted writes made are those of some places among the timestamps in a row that the clock drew, in their order, each once
pub record AreMadeInOrder (writes : List Write) (accepted : Accepted) : Type 0 where
  pub first : Stamp
  pub places : List ℕ
  pub at_clock : accepted.state.clock ≡ stamp_at first (length writes - 1)
  pub climb : Climb places
  pub within : AllByRecursion (λ i. i < length writes) places
  pub made : accepted.made ≡ map (id_at first) places

abbrev pub IdsAreMadeInOrder : Type 0
IdsAreMadeInOrder = (s : State) (turn : Turn) (reading : ℕ) (w : Write) (ws : List Write) (accepted : Accepted) → writing s turn reading (Ok (w ∷ ws)) ≡ Ok accepted → AreMadeInOrder (w ∷ ws) accepted
