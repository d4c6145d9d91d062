use Rattle.device_core.proofs.Several.{writes_joined}
use Rattle.device_core.proofs.laws.writes_are_joined.Goals as goal

pub returns : goal.returns
returns c = writes_joined
