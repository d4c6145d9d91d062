use Rattle.rule_laws.proofs.RunLaws.{taken_once}
use Rattle.rule_laws.proofs.laws.ids_are_taken_once.Goals as goal

pub returns : goal.returns
returns c = taken_once
