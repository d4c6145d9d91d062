use Rattle.schedules.proofs.StatusLaw.{statuses}
use Rattle.schedules.proofs.laws.statuses_are_told.Goals as goal

pub returns : goal.returns
returns c = statuses
