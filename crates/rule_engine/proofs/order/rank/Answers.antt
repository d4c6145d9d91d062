use Rattle.rule_engine.proofs.Ranks.{is_ranked}
use Rattle.rule_engine.proofs.order.rank.Goals as goal

pub returns : goal.returns
returns c = is_ranked c.args.rules.items _ c.requires c.in_ok-sort.ensures.permutation c.in_ok-sort.ensures.sorted
