use Rattle.bank_import.proofs.Runs.{law_of_matches}
use Rattle.bank_import.proofs.laws.matches_are_told.Goals as goal

pub returns : goal.returns
returns c = law_of_matches
