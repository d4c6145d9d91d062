use Rattle.device_core.proofs.Answering.{writes_answered}
use Rattle.device_core.proofs.laws.writes_are_answered.Goals as goal

pub returns : goal.returns
returns c = writes_answered
