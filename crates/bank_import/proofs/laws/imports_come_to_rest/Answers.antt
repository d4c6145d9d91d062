use Rattle.bank_import.proofs.Resting.{law_of_rest}
use Rattle.bank_import.proofs.laws.imports_come_to_rest.Goals as goal

pub returns : goal.returns
returns c = law_of_rest
