use Rattle.rule_engine.proofs.Following.{rules_follow}
use Rattle.rule_engine.proofs.laws.rules_follow_one_another.Goals as goal

pub returns : goal.returns
returns c = rules_follow
