use Rattle.rule_laws.proofs.Cutting.{rounded}
use Rattle.rule_laws.proofs.laws.middles_are_rounded.Goals as goal

pub returns : goal.returns
returns c = rounded
