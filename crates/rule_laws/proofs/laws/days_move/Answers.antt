use Rattle.rule_laws.proofs.Cutting.{moves}
use Rattle.rule_laws.proofs.laws.days_move.Goals as goal

pub returns : goal.returns
returns c = moves
