use Rattle.edit_history.proofs.Told.{entries_told}
use Rattle.edit_history.proofs.laws.entries_are_told.Goals as goal

pub returns : goal.returns
returns c = entries_told
