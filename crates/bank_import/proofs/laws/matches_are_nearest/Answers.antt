use Rattle.bank_import.proofs.Best.{law_of_best}
use Rattle.bank_import.proofs.laws.matches_are_nearest.Goals as goal

pub returns : goal.returns
returns c = law_of_best
