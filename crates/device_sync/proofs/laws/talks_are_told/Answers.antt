use Rattle.device_sync.proofs.Conversation.{are_told}
use Rattle.device_sync.proofs.laws.talks_are_told.Goals as goal

pub returns : goal.returns
returns c = are_told
