use Rattle.budget_laws.proofs.Noting.{notes_whole}
use Rattle.budget_laws.proofs.laws.notes_are_whole.Goals as goal

pub returns : goal.returns
returns c = notes_whole
