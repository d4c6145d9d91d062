-- Where a device begins.
use Rattle.std.specs.Prelude.{◌≡◌, ℕ, List, [], ◌∷◌, ◌++◌}
use Rattle.field_merge.specs.declared.message.Message.{Message}
use Rattle.field_merge.specs.Log.{IsRising}
use Rattle.device_core.specs.Device.{State, IsAhead, begun}

-- a device of this node has these messages, and its clock stands at the time and the counter of the last of them
pub record IsBegun (node : List ℕ) (ms : List Message) (s : State) : Type 0 where
  pub messages : s.messages ≡ ms
  pub own : s.clock.node ≡ node
  pub at_last : (front : List Message) (last : Message) → ms ≡ front ++ last ∷ [] → (s.clock.millis ≡ last.stamp.millis) × (s.clock.counter ≡ last.stamp.counter)
  -- without messages it stands at the start of 1970
  pub at_start : ms ≡ [] → (s.clock.millis ≡ 0) × (s.clock.counter ≡ 0)
  -- it is behind none of them, where they rise by timestamp
  pub ahead : IsRising ms → IsAhead s.clock ms

-- so each device begins
abbrev pub DevicesBegin : Type 0
DevicesBegin = (node : List ℕ) (ms : List Message) → IsBegun node ms (begun node ms)
