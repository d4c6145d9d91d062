use Rattle.device_core.proofs.Accepting.{accepted_joined}
use Rattle.device_core.proofs.laws.accepted_are_joined.Goals as goal

pub returns : goal.returns
returns c = accepted_joined
