use Rattle.schedules.specs.Days.{said}
use Rattle.schedules.proofs.Occurring.{past_first}
use Rattle.schedules.proofs.upcoming.begun.Goals as goal

pub returns : goal.returns
returns c = past_first (said c.args.recurrence.now) c.args.from c.asked_from.result c.asked_from.ensures
