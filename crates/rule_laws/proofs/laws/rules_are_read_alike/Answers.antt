use Rattle.rule_laws.proofs.Alike.{read_alike}
use Rattle.rule_laws.proofs.laws.rules_are_read_alike.Goals as goal

pub returns : goal.returns
returns c = read_alike
