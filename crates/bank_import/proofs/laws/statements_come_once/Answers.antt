use Rattle.bank_import.proofs.Twice.{law_of_imports}
use Rattle.bank_import.proofs.laws.statements_come_once.Goals as goal

pub returns : goal.returns
returns c = law_of_imports
