use Rattle.rule_laws.proofs.StageLaws.{in_turn}
use Rattle.rule_laws.proofs.laws.stages_come_in_turn.Goals as goal

pub returns : goal.returns
returns c = in_turn
