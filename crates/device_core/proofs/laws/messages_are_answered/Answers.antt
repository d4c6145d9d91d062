use Rattle.device_core.proofs.Answering.{messages_answered}
use Rattle.device_core.proofs.laws.messages_are_answered.Goals as goal

pub returns : goal.returns
returns c = messages_answered
