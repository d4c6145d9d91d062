use Rattle.rule_laws.proofs.Termed.{terms_told}
use Rattle.rule_laws.proofs.laws.terms_are_told.Goals as goal

pub returns : goal.returns
returns c = terms_told
