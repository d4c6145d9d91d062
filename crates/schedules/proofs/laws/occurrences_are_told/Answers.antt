use Rattle.schedules.proofs.Promises.{told}
use Rattle.schedules.proofs.laws.occurrences_are_told.Goals as goal

pub returns : goal.returns
returns c = told
