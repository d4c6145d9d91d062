-- What an accepted write leaves, and what messages leave that are received.
use Rattle.std.specs.Prelude.{◌≡◌, ℕ, ◌+◌, List, [], ◌∷◌, length, map, None, Some, Ok}
use Rattle.field_values.specs.declared.value.Value.{Value}
use Rattle.field_values.specs.Names.{field_of}
use Rattle.hybrid_clock.specs.declared.stamp.Stamp.{Stamp}
use Rattle.hybrid_clock.specs.Clock.{receive}
use Rattle.field_merge.specs.declared.message.Message.{Message}
use Rattle.field_merge.specs.Log.{at_stamp, join, latest}
use Rattle.device_core.specs.declared.edit.Edit.TheVariants.{Book}
use Rattle.edit_history.specs.declared.history.Turn.TheVariants.{New}
use Rattle.edit_history.specs.History.{after}
use Rattle.book_edits.specs.declared.edit.BookEdit.TheVariants.{Set}
use Rattle.kept_messages.specs.Records.{record_of}
use Rattle.kept_messages.specs.News.{new_in}
use Rattle.device_core.specs.Device.{State, Accepted, IsAhead, written_over, edited, greatest_of, received}

-- one message under a new timestamp, which is the device's own and that at which its clock now stands, has joined those of before: it has the value that was written,
-- it is the latest of its field, its record alone is pending, no id was made, what it wrote over can be undone and nothing redone, and one write was counted
pub record IsReadBack (before : State) (dataset row column : List ℕ) (value : Value) (accepted : Accepted) : Type 0 where
  pub message : Message
  pub new : at_stamp before.messages message.stamp ≡ None
  pub own : message.stamp.node ≡ before.clock.node
  pub at_clock : accepted.state.clock ≡ message.stamp
  pub joined : accepted.state.messages ≡ join before.messages (message ∷ [])
  pub is_latest : latest accepted.state.messages (field_of dataset row column) ≡ Some message
  pub has_value : message.value ≡ value
  pub pending : accepted.batch ≡ record_of message ∷ []
  pub none_made : accepted.made ≡ []
  pub entry : accepted.state.history ≡ after New before.history (written_over before.messages (message ∷ []))
  pub one : accepted.count ≡ 1

-- a write that is accepted is read back, where the clock is not behind a message: its timestamp is new, and no message of its field is later
abbrev pub EditsReadBack : Type 0
EditsReadBack = (s : State) (dataset row column : List ℕ) (value : Value) (reading : ℕ) (accepted : Accepted) → IsAhead s.clock s.messages →
    edited s (Book (Set dataset row column value)) reading ≡ Ok accepted → IsReadBack s dataset row column value accepted

-- messages were received at a reading of the wall clock
pub record AreTakenIn (before : State) (ns : List Message) (reading : ℕ) (accepted : Accepted) : Type 0 where
  -- all of them joined those of before
  pub joined : accepted.state.messages ≡ join before.messages ns
  -- by as many as were counted there are more
  pub grown : length accepted.state.messages ≡ length before.messages + accepted.count
  -- the records of the new ones are pending, and no others
  pub pending : accepted.batch ≡ map record_of (new_in before.messages ns)
  -- no id was made
  pub none_made : accepted.made ≡ []
  -- what can be undone and redone stays
  pub same_history : accepted.state.history ≡ before.history
  -- the clock received their greatest timestamp, once
  pub at_clock : (s : Stamp) → greatest_of ns ≡ Some s → receive before.clock reading s ≡ Ok accepted.state.clock
  -- of no messages it stays
  pub at_rest : ns ≡ [] → accepted.state.clock ≡ before.clock
  -- its node is the device's own as before
  pub own : accepted.state.clock.node ≡ before.clock.node
  -- it is not behind one that came
  pub up_to : IsAhead accepted.state.clock ns
  -- and not behind any message, where it was not before
  pub ahead : IsAhead before.clock before.messages → IsAhead accepted.state.clock accepted.state.messages

-- messages that are accepted are joined
abbrev pub ReceivedAreJoined : Type 0
ReceivedAreJoined = (s : State) (ns : List Message) (reading : ℕ) (accepted : Accepted) → received s ns reading ≡ Ok accepted → AreTakenIn s ns reading accepted
