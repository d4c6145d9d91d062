use Rattle.std.proofs.Common.{◌≡◌, drop}
use Rattle.std.specs.Prelude.{Some}
use Rattle.device_core.specs.Device.{greatest, greatest_of}
use Rattle.device_core.proofs.device.greatest_stamp.Given as goal

abbrev pub invariant-loop-message : goal.invariant-loop-message
invariant-loop-message l = Some (greatest l.greatest (drop l.message-index l.rest)) ≡ greatest_of l.messages
