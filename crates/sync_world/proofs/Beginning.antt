-- A device begins without messages.
use Rattle.std.proofs.Common.{◌≡◌, ℕ, List, [], Ok, sym, ap, ◌∙◌}
use Rattle.field_merge.specs.declared.message.Message.{Message}
use Rattle.kept_messages.specs.Records.{kept_set}
use Rattle.device_core.specs.Device.{DeviceState, at_rest, begun}
use Rattle.sync_world.proofs.Numbered.{same_ok}

pub device_begins : (d : DeviceState) (node : List ℕ) → kept_set [] ≡ Ok d.state.messages → d ≡ at_rest (begun node d.state.messages) → d ≡ at_rest (begun node [])
device_begins d node none is = is ∙ ap (λ (ms : List Message). at_rest (begun node ms)) (sym (same_ok [] d.state.messages none))
