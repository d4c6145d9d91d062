use Rattle.rule_laws.proofs.TestLaws.{conditions_told}
use Rattle.rule_laws.proofs.laws.conditions_are_told.Goals as goal

pub returns : goal.returns
returns c = conditions_told
