-- What every accepted line leaves.
use Rattle.std.specs.Prelude.{◌≡◌, ◌≢◌, ℕ, List, map, All, Ok}
use Rattle.std.specs.List.{AllByRecursion}
use Rattle.hybrid_clock.specs.Stamp.{IsStamp}
use Rattle.budget_ports.specs.declared.keeper.Record.{Record}
use Rattle.field_merge.specs.declared.message.Message.{Message}
use Rattle.field_merge.specs.Log.{join}
use Rattle.kept_messages.specs.Records.{record_of}
use Rattle.kept_messages.specs.News.{new_in}
use Rattle.device_core.specs.declared.edit.Edit.{Edit}
use Rattle.device_core.specs.Device.{State, DeviceState, Accepted, IsAhead, edited, undone, redone, received}

-- some messages have joined those of before, and these records, of the new ones, are those that are not kept yet
pub record BringsTo (old : List Message) (pending : List Record) (now : List Message) : Type 0 where
  pub news : List Message
  pub batch : pending ≡ map record_of (new_in old news)
  pub messages : now ≡ join old news

-- so it is with a device
abbrev pub Brings : List Message → DeviceState → Type 0
Brings old device = BringsTo old device.batch device.state.messages

-- the text has no line feed
abbrev pub IsLine : List ℕ → Type 0
IsLine text = All (λ b. b ≢ 10) text

-- what an accepted line leaves of a state
pub record IsJoined (before : State) (accepted : Accepted) : Type 0 where
  -- some messages have joined, and the records of the new ones are pending, and no others
  pub brings : BringsTo before.messages accepted.batch accepted.state.messages
  -- no id that was made has a line feed, where the clock stood at a valid timestamp
  pub lines : IsStamp before.clock → AllByRecursion IsLine accepted.made
  -- the clock keeps its node
  pub own : accepted.state.clock.node ≡ before.clock.node
  -- and is not behind a message, where it was not before
  pub ahead : IsAhead before.clock before.messages → IsAhead accepted.state.clock accepted.state.messages

-- so it is with every accepted line: an edit, an undo, a redo, and messages that come
pub record AcceptedAreJoined : Type 0 where
  pub of_edits : (s : State) (edit : Edit) (reading : ℕ) (accepted : Accepted) → edited s edit reading ≡ Ok accepted → IsJoined s accepted
  pub of_undo : (s : State) (reading : ℕ) (accepted : Accepted) → undone s reading ≡ Ok accepted → IsJoined s accepted
  pub of_redo : (s : State) (reading : ℕ) (accepted : Accepted) → redone s reading ≡ Ok accepted → IsJoined s accepted
  pub of_messages : (s : State) (ns : List Message) (reading : ℕ) (accepted : Accepted) → received s ns reading ≡ Ok accepted → IsJoined s accepted
