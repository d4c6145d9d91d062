use Rattle.schedules.proofs.Promises.{dates}
use Rattle.schedules.proofs.laws.days_have_dates.Goals as goal

pub returns : goal.returns
returns c = dates
