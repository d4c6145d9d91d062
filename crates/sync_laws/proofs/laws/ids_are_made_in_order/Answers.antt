use Rattle.sync_laws.proofs.Devices.{made_in_order}
use Rattle.sync_laws.proofs.laws.ids_are_made_in_order.Goals as goal

pub returns : goal.returns
returns c = made_in_order
