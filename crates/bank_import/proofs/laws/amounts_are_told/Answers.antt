use Rattle.bank_import.proofs.AmountTexts.{law_of_amounts}
use Rattle.bank_import.proofs.laws.amounts_are_told.Goals as goal

pub returns : goal.returns
returns c = law_of_amounts
