use Rattle.sync_laws.proofs.Devices.{begin_anew}
use Rattle.sync_laws.proofs.laws.devices_begin_anew.Goals as goal

pub returns : goal.returns
returns c = begin_anew
