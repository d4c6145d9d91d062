use Rattle.rule_laws.proofs.RuleRows.{rules_done}
use Rattle.rule_laws.proofs.laws.rule_edits_do.Goals as goal

pub returns : goal.returns
returns c = rules_done
