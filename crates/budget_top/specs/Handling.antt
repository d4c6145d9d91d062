-- What one line does to a device and its keeper.
use Rattle.std.specs.Prelude.{◌≡◌, ◌⊎◌, ℕ, List, Bool, Option, Result, Ok}
use Rattle.budget_ports.specs.Contents.{Contents}
use Rattle.budget_ports.specs.Exchanges.{Exchange, Adds}
use Rattle.budget_ports.specs.Faults.{count_after}
use Rattle.budget_ports.specs.declared.keeper.PortFault.{PortFault}
use Rattle.budget_ports.specs.declared.keeper.PortFault.TheVariants.{Failed}
use Rattle.field_merge.specs.declared.message.Message.{Message}
use Rattle.kept_messages.specs.Records.{kept_set}
use Rattle.device_core.specs.Device.{State, DeviceState, at_rest, begun}
use Rattle.command_lines.specs.declared.command.Command.{Command}
use Rattle.command_lines.specs.declared.reply.Reply.{Reply}
use Rattle.command_lines.specs.Replies.{reply_text_of}
use Rattle.budget_top.specs.Session.{is_refused}
use Rattle.device_sync.specs.declared.target.Target.{Target}
use Rattle.budget_top.specs.Doing.{Given, Running, said, made, done, IsWhole, Finds, fails_link, HasStayed, MayLeave, HasMadeNew}
use Rattle.budget_top.specs.Seen.{HoldsSet, Holds, device_records}

-- a line was done as it should be: the device's new state, the text of the reply, and whether the line was refused
pub record IsHandled (done : State × Reply) (new : State) (text : List ℕ) (refused : Bool) : Type 0 where
  pub state : new ≡ done.0
  pub is_text : text ≡ reply_text_of done.1
  pub is_bad : refused ≡ is_refused done.1

-- a keeper that held these messages holds those now, whatever else it holds
abbrev pub Carries : List Message → List Message → Contents → Contents → Type 0
Carries old new before now = (entry : Contents) → HoldsSet entry before old → HoldsSet entry now new

-- a keeper holds one message set or another
pub record HoldsEither (entry now : Contents) (old new : List Message) : Type 0 where
  pub messages : List Message
  pub holds : HoldsSet entry now messages
  pub which : (messages ≡ old) ⊎ (messages ≡ new)

-- a keeper that held these messages holds them still, or holds those
abbrev pub CarriesEither : List Message → List Message → Contents → Contents → Type 0
CarriesEither old new before now = (entry : Contents) → HoldsSet entry before old → HoldsEither entry now old new

-- a keeper holds a run that meets this
pub record HoldsSome (target : Target) (entry now : Contents) (P : Running → Type 0) : Type 0 where
  pub left : Running
  pub holds : Holds target entry now left
  pub which : P left

-- a line was answered: what it took, what it made and said, what the link told before and after it, and what the keeper holds then
pub record IsAnswered (target : Target) (reading : ℕ) (command : Result Command ℕ) (old new : State) (text : List ℕ) (refused : Bool)
    (exchanges new_exchanges : Option (List Exchange)) (faults new_faults : ℕ) (tells : Type 0) (before now : Contents) : Type 0 where
  pub given : Given
  pub took : given.reading ≡ reading
  pub handled : IsHandled (made target old given command) new text refused
  pub talked : Adds exchanges new_exchanges (said given)
  pub whole : IsWhole target old given command
  pub failed : new_faults ≡ count_after (fails_link old given command) faults
  pub keeper : tells → (entry : Contents) (r : Running) → r.state ≡ old → Holds target entry before r →
      Holds target entry now (done target r given command).0 × Finds given command r.synced

-- a line got no reply for this fault: what it took, what it may have said and kept, and what a stop may leave of it
pub record IsUnanswered (target : Target) (fault : PortFault) (reading : ℕ) (command : Result Command ℕ) (old : State) (exchanges new_exchanges : Option (List Exchange))
    (faults new_faults : ℕ) (alone told tells : Type 0) (before now : Contents) (left : Contents → Type 0) : Type 0 where
  pub given : Given
  pub took : given.reading ≡ reading
  pub talked : Adds exchanges new_exchanges (said given)
  pub stayed : (r : Running) → r.state ≡ old → (kept : Running) × HasStayed target r given command kept faults new_faults ×
      (tells → (entry : Contents) → Holds target entry before r → Holds target entry now kept × Finds given command r.synced)
  pub stops : alone → (c : Contents) → left c → told × ((entry : Contents) (r : Running) → r.state ≡ old → Holds target entry before r →
      HoldsSome target entry c (MayLeave target r given command))
  pub new : fault ≡ Failed → (r : Running) → r.state ≡ old → HasMadeNew target r given command

-- a device that begins with what the group keeps, where the keeper tells
pub record IsOpened (node : List ℕ) (contents : Contents) (tells : Type 0) (device : DeviceState) : Type 0 where
  pub has : tells → kept_set (device_records contents) ≡ Ok device.state.messages
  pub state : device ≡ at_rest (begun node device.state.messages)
