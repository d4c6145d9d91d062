use Rattle.rule_laws.proofs.Wording.{parts_are_read}
use Rattle.rule_laws.proofs.laws.rule_parts_are_read.Goals as goal

pub returns : goal.returns
returns c = parts_are_read
