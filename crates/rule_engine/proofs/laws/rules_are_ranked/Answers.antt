use Rattle.rule_engine.proofs.Live.{rules_ranked}
use Rattle.rule_engine.proofs.laws.rules_are_ranked.Goals as goal

pub returns : goal.returns
returns c = rules_ranked
