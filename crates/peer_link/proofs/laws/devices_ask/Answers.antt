use Rattle.peer_link.proofs.Asking.{devices_ask}
use Rattle.peer_link.proofs.laws.devices_ask.Goals as goal

pub returns : goal.returns
returns c = devices_ask
