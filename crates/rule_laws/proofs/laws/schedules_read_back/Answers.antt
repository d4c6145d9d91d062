use Rattle.rule_laws.proofs.ReadBack.{read_back}
use Rattle.rule_laws.proofs.laws.schedules_read_back.Goals as goal

pub returns : goal.returns
returns c = read_back
