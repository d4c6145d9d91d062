use Rattle.bank_import.proofs.Read.{law_of_reading}
use Rattle.bank_import.proofs.laws.statements_are_told.Goals as goal

pub returns : goal.returns
returns c = law_of_reading
