use Rattle.device_core.proofs.Greatest.{devices_begin}
use Rattle.device_core.proofs.laws.devices_begin.Goals as goal

pub returns : goal.returns
returns c = devices_begin
