-- The states that a device can have.
use Rattle.std.specs.Prelude.{ℕ, List}
use Rattle.hybrid_clock.specs.Node.{IsNode}
use Rattle.hybrid_clock.specs.Stamp.{IsStamp}
use Rattle.field_merge.specs.declared.message.Message.{Message}
use Rattle.field_merge.specs.Messages.{AreMessages}
use Rattle.edit_history.specs.History.{AreEntries}
use Rattle.device_core.specs.Device.{State, begun}
use Rattle.device_sync.specs.declared.target.Target.{Target}
use Rattle.budget_top.specs.Session.{asked}
use Rattle.budget_top.specs.Doing.{Running, IsWhole}
use Rattle.budget_top.specs.Course.{Input, step}

-- the messages are valid, and so is the timestamp at which the clock stands, and what can be undone and redone
pub record IsState (s : State) : Type 0 where
  pub messages : AreMessages s.messages
  pub clock : IsStamp s.clock
  pub history : AreEntries s.history

-- a device that begins with a node and valid messages has such a state, and no line leaves another one whose talk, if it has one, is whole
pub record StatesStayValid : Type 0 where
  pub begun : (node : List ℕ) (ms : List Message) → IsNode node → AreMessages ms → IsState (begun node ms)
  pub stepped : (target : Target) (r : Running) (i : Input) → IsState r.state → IsWhole target r.state i.given (asked i.line) → IsState (step target r i).0.state
