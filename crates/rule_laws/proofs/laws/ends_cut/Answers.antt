use Rattle.rule_laws.proofs.Cutting.{cuts}
use Rattle.rule_laws.proofs.laws.ends_cut.Goals as goal

pub returns : goal.returns
returns c = cuts
