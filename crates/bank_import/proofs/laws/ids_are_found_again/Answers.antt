use Rattle.bank_import.proofs.Again.{law_of_second}
use Rattle.bank_import.proofs.laws.ids_are_found_again.Goals as goal

pub returns : goal.returns
returns c = law_of_second
