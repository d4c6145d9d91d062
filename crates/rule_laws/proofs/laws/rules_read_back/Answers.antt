use Rattle.rule_laws.proofs.StageLaws.{read_back}
use Rattle.rule_laws.proofs.laws.rules_read_back.Goals as goal

pub returns : goal.returns
returns c = read_back
