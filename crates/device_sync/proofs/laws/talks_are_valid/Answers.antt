use Rattle.device_sync.proofs.Conversation.{are_valid}
use Rattle.device_sync.proofs.laws.talks_are_valid.Goals as goal

pub returns : goal.returns
returns c = are_valid c.meanings_are_valid.ensures
