use Rattle.bank_import.proofs.NewPayees.{law_of_names}
use Rattle.bank_import.proofs.laws.new_payees_are_told.Goals as goal

pub returns : goal.returns
returns c = law_of_names
