-- What an edit of several writes leaves.
use Rattle.std.specs.Prelude.{◌≡◌, ◌≢◌, ◌↔◌, ℕ, ◌+◌, ◌-◌, ◌<◌, ◌≤◌, List, [], ◌∷◌, ◌++◌, length, map, Some, Ok, Err}
use Rattle.std.specs.List.{AllByRecursion, Contains, slice_get}
use Rattle.field_values.specs.Names.{FieldNames}
use Rattle.hybrid_clock.specs.declared.stamp.Stamp.{Stamp}
use Rattle.hybrid_clock.specs.declared.clock.ClockFault.{ClockFault}
use Rattle.hybrid_clock.specs.Stamp.{stamp_text}
use Rattle.hybrid_clock.specs.Clock.{IsLater, draw}
use Rattle.field_merge.specs.declared.message.Message.{Message}
use Rattle.field_merge.specs.Log.{join, latest, value_in}
use Rattle.kept_messages.specs.Records.{record_of}
use Rattle.book_rows.specs.declared.fault.EditFault.TheVariants.{TooManyWrites}
use Rattle.book_rows.specs.declared.write.RowName.TheVariants.{Made}
use Rattle.book_rows.specs.declared.write.Write.{Write}
use Rattle.edit_history.specs.declared.history.Turn.{Turn}
use Rattle.edit_history.specs.declared.history.Turn.TheVariants.{New}
use Rattle.edit_history.specs.History.{after}
use Rattle.device_core.specs.declared.edit.Edit.{Edit}
use Rattle.device_core.specs.declared.edit.LineRefusal.TheVariants.{Edit as OfEdit, Clock as OfClock}
use Rattle.device_core.specs.Books.{rows_of}
use Rattle.device_core.specs.Edits.{writes_of}
use Rattle.device_core.specs.Placing.{stamp_at, id_at, message_at}
use Rattle.device_core.specs.Device.{State, Accepted, IsUpTo, IsAhead, at_rest, accepted_as, written_over, writing, edited}
use Rattle.device_core.specs.Answering.{IsAcceptedAt}

-- none of the messages is one of the field
abbrev pub LeaveAlone : FieldNames → List Message → Type 0
LeaveAlone f = AllByRecursion (λ m. m.field ≢ f)

-- one of the writes makes its row, whose id is this one: the text of the timestamp of that write
pub record Makes (first : Stamp) (ws : List Write) (id : List ℕ) : Type 0 where
  pub place : ℕ
  pub write : Write
  pub there : slice_get ws place ≡ Some write
  pub own : write.row ≡ Made place
  pub text : id_at first place ≡ id

-- no message is of a row with the id of a timestamp past the clock
abbrev pub NamesNoLater : Stamp → List Message → Type 0
NamesNoLater clock ms = (m : Message) (s : Stamp) → Contains ms m → m.field.row ≡ stamp_text s → IsUpTo clock s

-- what accepted writes leave of a state
pub record AreJoinedWrites (before : State) (turn : Turn) (ws : List Write) (accepted : Accepted) : Type 0 where
  -- each write is a message, under timestamps with counters in a row
  pub messages : List Message
  pub first : Stamp
  pub number : length messages ≡ length ws
  pub each : (i : ℕ) (w : Write) → slice_get ws i ≡ Some w → slice_get messages i ≡ Some (message_at first i w)
  -- the first of them is the device's own, and later than where the clock stood; the clock now stands at the last
  pub own : first.node ≡ before.clock.node
  pub later : IsLater before.clock first
  pub at_clock : accepted.state.clock ≡ stamp_at first (length ws - 1)
  -- the messages have joined those of before and stand behind them, and by as many as there are writes there are more
  pub joined : accepted.state.messages ≡ join before.messages messages
  pub behind : accepted.state.messages ≡ before.messages ++ messages
  pub grown : length accepted.state.messages ≡ length before.messages + length ws
  -- a field that is written has in the end the value of its last write, and any other keeps its latest message
  pub written : (front back : List Message) (m : Message) → messages ≡ front ++ m ∷ back → LeaveAlone m.field back → value_in accepted.state.messages m.field ≡ Some m.value
  pub not_written : (f : FieldNames) → LeaveAlone f messages → latest accepted.state.messages f ≡ latest before.messages f
  -- the ids that were made are those of the rows that the writes make
  pub made : (id : List ℕ) → Contains accepted.made id ↔ Makes first ws id
  -- and no message of before was of such a row, where none was of a row with the id of a timestamp past the clock
  pub made_new : (id : List ℕ) (m : Message) → NamesNoLater before.clock before.messages → Contains accepted.made id → Contains before.messages m → m.field.row ≢ id
  -- what the messages wrote over is the latest entry that can be undone, or redone
  pub entry : accepted.state.history ≡ after turn before.history (written_over before.messages messages)
  -- the records of the messages are pending, and the writes were counted
  pub pending : accepted.batch ≡ map record_of messages
  pub counted : accepted.count ≡ length ws

-- the writes of an edit, made at a reading of the wall clock
pub record WritesAreJoined : Type 0 where
  -- what is accepted has joined, where the clock was not behind a message
  pub joined : (s : State) (turn : Turn) (reading : ℕ) (w : Write) (ws : List Write) (accepted : Accepted) → IsAhead s.clock s.messages → writing s turn reading (Ok (w ∷ ws)) ≡ Ok accepted → AreJoinedWrites s turn (w ∷ ws) accepted
  -- writes are accepted where they are at most 65,536 and the clock draws a timestamp for each of them
  pub accepted : (s : State) (turn : Turn) (reading : ℕ) (w : Write) (ws : List Write) (clock : Stamp) → length (w ∷ ws) ≤ 65_536 → draw s.clock reading (length (w ∷ ws)) ≡ Ok clock → IsAcceptedAt (writing s turn reading (Ok (w ∷ ws))) clock
  -- where it draws none, they are refused for its fault; more of them are refused for their number
  pub no_stamp : (s : State) (turn : Turn) (reading : ℕ) (w : Write) (ws : List Write) (fault : ClockFault) → length (w ∷ ws) ≤ 65_536 → draw s.clock reading (length (w ∷ ws)) ≡ Err fault → writing s turn reading (Ok (w ∷ ws)) ≡ Err (OfClock fault)
  pub too_many : (s : State) (turn : Turn) (reading : ℕ) (ws : List Write) → 65_536 < length ws → writing s turn reading (Ok ws) ≡ Err (OfEdit (TooManyWrites (length ws)))
  -- where there are no writes, that is accepted, and all stays
  pub none : (s : State) (turn : Turn) (reading : ℕ) → writing s turn reading (Ok []) ≡ Ok (accepted_as (at_rest s) 0)

-- what an accepted edit leaves of a state
pub record IsMade (before : State) (edit : Edit) (accepted : Accepted) : Type 0 where
  -- its writes are those that it makes in the book of the messages
  pub writes : List Write
  pub meant : writes_of (rows_of before.messages) edit ≡ Ok writes
  -- they have joined; where there are none, all stays
  pub some : (w : Write) (ws : List Write) → writes ≡ w ∷ ws → AreJoinedWrites before New writes accepted
  pub none : writes ≡ [] → accepted ≡ accepted_as (at_rest before) 0

-- an edit that is accepted was made, where the clock was not behind a message
abbrev pub EditsAreMade : Type 0
EditsAreMade = (s : State) (edit : Edit) (reading : ℕ) (accepted : Accepted) → IsAhead s.clock s.messages → edited s edit reading ≡ Ok accepted → IsMade s edit accepted
