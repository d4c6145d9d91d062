use Rattle.rule_laws.proofs.Asked.{rules_judged}
use Rattle.rule_laws.proofs.laws.rule_edits_are_judged.Goals as goal

pub returns : goal.returns
returns c = rules_judged
