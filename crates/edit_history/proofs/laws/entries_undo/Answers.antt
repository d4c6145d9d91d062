use Rattle.edit_history.proofs.UndoLaw.{entries_undo}
use Rattle.edit_history.proofs.laws.entries_undo.Goals as goal

pub returns : goal.returns
returns c = entries_undo
