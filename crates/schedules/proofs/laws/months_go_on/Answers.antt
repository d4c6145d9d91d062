use Rattle.schedules.proofs.GoingOn.{months_go_on}
use Rattle.schedules.proofs.laws.months_go_on.Goals as goal

pub returns : goal.returns
returns c = months_go_on
