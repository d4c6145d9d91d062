use Rattle.bank_import.proofs.Listed.{law_of_candidates}
use Rattle.bank_import.proofs.laws.candidates_are_told.Goals as goal

pub returns : goal.returns
returns c = law_of_candidates
