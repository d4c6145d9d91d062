use Rattle.device_sync.proofs.Conversation.{converges}
use Rattle.device_sync.proofs.laws.talks_converge.Goals as goal

pub returns : goal.returns
returns c = converges
