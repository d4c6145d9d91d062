use Rattle.device_core.proofs.Undoing.{entries_taken_back}
use Rattle.device_core.proofs.laws.entries_are_taken_back.Goals as goal

pub returns : goal.returns
returns c = entries_taken_back
