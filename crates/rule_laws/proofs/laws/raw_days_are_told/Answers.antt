use Rattle.rule_laws.proofs.RawDays.{raw_days}
use Rattle.rule_laws.proofs.laws.raw_days_are_told.Goals as goal

pub returns : goal.returns
returns c = raw_days
