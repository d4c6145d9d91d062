-- What a run of a device says of lines that take something back, and of lines that only read.
use Rattle.std.specs.Prelude.{◌≡◌, ℕ, ◌<◌, List, [], length, Some, Ok, Err}
use Rattle.hybrid_clock.specs.declared.stamp.Stamp.{Stamp}
use Rattle.hybrid_clock.specs.declared.clock.ClockFault.{ClockFault}
use Rattle.hybrid_clock.specs.Clock.{draw}
use Rattle.budget_ports.specs.Contents.{Contents}
use Rattle.field_merge.specs.declared.message.Message.{Message}
use Rattle.field_merge.specs.Log.{IsRising, join}
use Rattle.field_merge.specs.Joining.{HasOneEach, HaveSame}
use Rattle.kept_messages.specs.Records.{kept_set}
use Rattle.book_rows.specs.declared.fault.EditFault.{EditFault}
use Rattle.book_rows.specs.declared.fault.EditFault.TheVariants.{NothingToUndo, NothingToRedo}
use Rattle.edit_history.specs.declared.before.Before.{Before}
use Rattle.edit_history.specs.declared.history.Turn.{Turn}
use Rattle.edit_history.specs.declared.history.Turn.TheVariants.{Undo as Undoing, Redo as Redoing}
use Rattle.edit_history.specs.Undo.{undo_writes}
use Rattle.edit_history.specs.History.{latest_of, AreEntries}
use Rattle.device_core.specs.declared.edit.Edit.{Edit as AnyEdit}
use Rattle.device_core.specs.declared.edit.LineRefusal.TheVariants.{Edit as OfEdit, Clock as OfClock}
use Rattle.device_core.specs.Device.{Accepted, IsAhead, edited, undone, redone}
use Rattle.device_core.specs.Several.{AreJoinedWrites}
use Rattle.device_core.specs.Undoing.{IsRestored}
use Rattle.command_lines.specs.declared.command.Command.{Command}
use Rattle.command_lines.specs.declared.command.Command.TheVariants.{Edit, Undo, Redo}
use Rattle.command_lines.specs.declared.reply.Reply.{Reply}
use Rattle.command_lines.specs.Readings.{IsReading}
use Rattle.command_lines.specs.Replies.{reply_text_of}
use Rattle.device_sync.specs.declared.target.Target.{Target}
use Rattle.budget_top.specs.Doing.{Running}
use Rattle.budget_top.specs.Course.{Input, step}
use Rattle.budget_top.specs.DeviceRun.{beginning}
use Rattle.budget_top.specs.Obeying.{Says, Refuses, TellsWrites}
use Rattle.budget_top.specs.Seen.{device_records, Holds}

-- ---- lines that take something back

-- an entry was taken back: exactly the writes that undo it have joined, whatever has come since it was made, and the reply tells them
pub record HasTakenBack (r : Running) (turn : Turn) (entry : List Before) (clock : Stamp) (after : Running) (reply : Reply) : Type 0 where
  pub accepted : Accepted
  pub at_clock : accepted.state.clock ≡ clock
  pub made : AreJoinedWrites r.state turn (undo_writes entry) accepted
  pub after_it : after ≡ record r { state = accepted.state }
  pub told : TellsWrites accepted reply

-- a line takes back the latest of these entries of a run
pub record TakesLatest (target : Target) (r : Running) (turn : Turn) (entries : List (List Before)) (fault_of_none : EditFault) (i : Input) : Type 0 where
  -- where there is none, it is refused for that
  pub none : entries ≡ [] → Refuses r (OfEdit fault_of_none) (step target r i).0 (step target r i).1
  -- else it does so where the clock draws a timestamp for each write, and is refused for the fault of the clock where it does not
  pub taken : (entry : List Before) (clock : Stamp) → latest_of entries ≡ Some entry → draw r.state.clock i.given.reading (length (undo_writes entry)) ≡ Ok clock
      → HasTakenBack r turn entry clock (step target r i).0 (step target r i).1
  pub no_stamp : (entry : List Before) (fault : ClockFault) → latest_of entries ≡ Some entry → draw r.state.clock i.given.reading (length (undo_writes entry)) ≡ Err fault
      → Refuses r (OfClock fault) (step target r i).0 (step target r i).1

-- what fields had before a line they have again after it and one that takes it back. One that had none reads as having none, where its row was
-- there or can't be deleted; and a row that the line made is deleted, where it can be
abbrev pub Restores : Target → Running → Input → Input → Type 0
Restores target r i j = IsRestored r.state (step target r i).0.state (step target (step target r i).0 j).0.state

pub record LinesAreTakenBack : Type 0 where
  -- an undo and a redo, where the entries are valid and the clock is behind no message, as in each device
  pub undos : (target : Target) (r : Running) (i : Input) → Says i.line Undo → AreEntries r.state.history → IsAhead r.state.clock r.state.messages
      → TakesLatest target r Undoing r.state.history.undo NothingToUndo i
  pub redos : (target : Target) (r : Running) (i : Input) → Says i.line Redo → AreEntries r.state.history → IsAhead r.state.clock r.state.messages
      → TakesLatest target r Redoing r.state.history.redo NothingToRedo i
  -- a line with writes, and the line that takes it back, one right after the other: an edit and an undo, an undo and a redo, a redo and an undo
  pub edit_undo : (target : Target) (r : Running) (i j : Input) (edit : AnyEdit) (after back : Accepted) → Says i.line (Edit edit) → Says j.line Undo → IsAhead r.state.clock r.state.messages
      → edited r.state edit i.given.reading ≡ Ok after → 0 < after.count → undone after.state j.given.reading ≡ Ok back → Restores target r i j
  pub undo_redo : (target : Target) (r : Running) (i j : Input) (after back : Accepted) → Says i.line Undo → Says j.line Redo → IsAhead r.state.clock r.state.messages
      → undone r.state i.given.reading ≡ Ok after → 0 < after.count → redone after.state j.given.reading ≡ Ok back → Restores target r i j
  pub redo_undo : (target : Target) (r : Running) (i j : Input) (after back : Accepted) → Says i.line Redo → Says j.line Undo → IsAhead r.state.clock r.state.messages
      → redone r.state i.given.reading ≡ Ok after → 0 < after.count → undone after.state j.given.reading ≡ Ok back → Restores target r i j

-- ---- lines that only read

-- two runs answer each line that only reads by the same bytes, and stay as they are, whatever they take from outside
abbrev pub AnswerEqually : Running → Running → Type 0
AnswerEqually r q = (target other : Target) (i j : Input) (said : Command) → Says i.line said → Says j.line said → IsReading said
    → (reply_text_of (step target r i).1 ≡ reply_text_of (step other q j).1) × ((step target r i).0 ≡ r) × ((step other q j).0 ≡ q)

pub record EqualSetsAnswerEqually : Type 0 where
  -- where they have the same messages, wherever their clocks stand, and whatever could be undone, redone, or was synced
  pub equal : (r q : Running) → r.state.messages ≡ q.state.messages → AnswerEqually r q
  -- where the same messages have joined the same messages, in any order and number, of which equal timestamps mean equal ones
  pub any_order : (r q : Running) (ms ns ps : List Message) → IsRising ms → HasOneEach ns → HaveSame ns ps → r.state.messages ≡ join ms ns → q.state.messages ≡ join ms ps → AnswerEqually r q
  -- and so does a run that begins, under any node, with what is kept of another one
  pub reopened : (target other : Target) (entry kept : Contents) (r : Running) (node : List ℕ) (first : List Message) → Holds target entry kept r → kept_set (device_records kept) ≡ Ok first
      → AnswerEqually r (beginning node other first kept)
