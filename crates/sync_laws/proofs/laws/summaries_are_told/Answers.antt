use Rattle.sync_laws.proofs.Told.{told_all}
use Rattle.sync_laws.proofs.laws.summaries_are_told.Goals as goal

pub returns : goal.returns
returns c = told_all
