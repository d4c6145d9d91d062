use Rattle.device_core.proofs.Received.{received_joined}
use Rattle.device_core.proofs.laws.received_are_joined.Goals as goal

pub returns : goal.returns
returns c = received_joined
