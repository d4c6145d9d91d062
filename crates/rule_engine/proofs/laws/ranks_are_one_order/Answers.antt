use Rattle.rule_engine.proofs.Ranks.{one_order}
use Rattle.rule_engine.proofs.laws.ranks_are_one_order.Goals as goal

pub returns : goal.returns
returns c = one_order
