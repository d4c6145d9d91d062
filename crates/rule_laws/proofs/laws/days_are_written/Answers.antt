use Rattle.rule_laws.proofs.DayTexts.{days_written}
use Rattle.rule_laws.proofs.laws.days_are_written.Goals as goal

pub returns : goal.returns
returns c = days_written
