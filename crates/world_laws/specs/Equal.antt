-- Whether two devices of a world have the same messages.
use Rattle.std.specs.Prelude.{◌≡◌, ◌≢◌, ◌↔◌, ℕ, [], ◌∷◌, codes, None, Some}
use Rattle.std.specs.Fmt.{decimal}
use Rattle.field_merge.specs.Messages.{AreMessages}
use Rattle.device_core.specs.Device.{State}
use Rattle.command_lines.specs.declared.reply.Reply.{Reply}
use Rattle.command_lines.specs.declared.reply.Reply.TheVariants.{Done, Refused}
use Rattle.sync_world.specs.World.{WorldState, device_of}
use Rattle.world_lines.specs.declared.command.WorldCommand.TheVariants.{Equal}
use Rattle.world_lines.specs.Session.{obeyed}

-- the messages of each device are valid
abbrev pub HaveMessages : WorldState → Type 0
HaveMessages w = (i : ℕ) (s : State) → device_of w.devices i ≡ Some s → AreMessages s.messages

-- two devices are there
pub record AreThere (w : WorldState) (one other : ℕ) (s t : State) : Type 0 where
  pub first : device_of w.devices one ≡ Some s
  pub second : device_of w.devices other ≡ Some t

-- they are there, and have the same messages; or they are there, and have others
abbrev pub HaveSame : WorldState → ℕ → ℕ → Type 0
HaveSame w one other = (s : State) × (t : State) × AreThere w one other s t × (s.messages ≡ t.messages)

abbrev pub HaveOthers : WorldState → ℕ → ℕ → Type 0
HaveOthers w one other = (s : State) × (t : State) × AreThere w one other s t × (s.messages ≢ t.messages)

-- what the line `equal` is replied
abbrev pub told : WorldState → ℕ → ℕ → Reply
told w one other = (obeyed w (Equal one other)).1

-- there is no device with this number
abbrev pub lacking : ℕ → Reply
lacking number = Refused 33 (codes "no-such-device") (decimal number)

pub record EqualIsTold (w : WorldState) (one other : ℕ) : Type 0 where
  -- nothing changes
  pub same : (obeyed w (Equal one other)).0 ≡ w
  -- where the messages of devices are valid, the devices have the same messages, or others
  pub equal : HaveMessages w → (told w one other ≡ Done (codes "equal 1" ∷ [])) ↔ HaveSame w one other
  pub differ : HaveMessages w → (told w one other ≡ Done (codes "equal 0" ∷ [])) ↔ HaveOthers w one other
  -- the first is not there; or the first is there, and the second is not
  pub no_first : device_of w.devices one ≡ None → told w one other ≡ lacking one
  pub no_second : (s : State) → device_of w.devices one ≡ Some s → device_of w.devices other ≡ None → told w one other ≡ lacking other
