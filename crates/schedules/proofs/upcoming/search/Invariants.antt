use Rattle.std.proofs.Common.{◌-◌}
use Rattle.schedules.specs.Days.{said, IsPast}
use Rattle.schedules.proofs.upcoming.search.Given as goal

abbrev pub invariant-loop-raw : goal.invariant-loop-raw
invariant-loop-raw l = IsPast (said l.recurrence) l.from l.place.at l.place.passed

abbrev pub decreases-loop-raw : goal.decreases-loop-raw
decreases-loop-raw l = 84_006 - l.place.at
