use Rattle.rule_laws.proofs.RunLaws.{make_rows}
use Rattle.rule_laws.proofs.laws.rules_make_rows.Goals as goal

pub returns : goal.returns
returns c = make_rows
