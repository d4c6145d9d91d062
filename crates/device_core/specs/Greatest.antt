-- The greatest timestamp of messages, by which a clock receives them.
use Rattle.std.specs.Prelude.{◌≡◌, List, [], map, false, Option, None, Some}
use Rattle.std.specs.List.{Contains}
use Rattle.std.specs.Ordering.{is_gt}
use Rattle.hybrid_clock.specs.declared.stamp.Stamp.{Stamp}
use Rattle.hybrid_clock.specs.Order.{stamp_cmp}
use Rattle.field_merge.specs.declared.message.Message.{Message}
use Rattle.device_core.specs.Device.{greatest_of}

-- s is the timestamp of one of the messages, and none of them has a greater one
pub record IsGreatest (ms : List Message) (s : Stamp) : Type 0 where
  pub of_one : Contains (map (λ m. m.stamp) ms) s
  pub greatest : (m : Message) → Contains ms m → is_gt (stamp_cmp m.stamp s) ≡ false

-- the greatest timestamp of messages, or none where there are no messages
abbrev pub IsGreatestOrNone : List Message → Option Stamp → Type 0
IsGreatestOrNone ms None = ms ≡ []
IsGreatestOrNone ms (Some s) = IsGreatest ms s

-- `greatest_of` finds the greatest timestamp, and none only of no messages
abbrev pub GreatestIsTold : Type 0
GreatestIsTold = (ms : List Message) → IsGreatestOrNone ms (greatest_of ms)
