use Rattle.std.proofs.Common.{◌≡◌, ℕ, ◌-◌, ◌++◌, map, Some}
use Rattle.schedules.specs.Months.{date_of, day_in}
use Rattle.schedules.specs.Days.{said, IsPast}
use Rattle.schedules.proofs.Listing.{occurrences_in}
use Rattle.schedules.proofs.upcoming.occurrences.Given as goal

abbrev pub invariant-loop-day : goal.invariant-loop-day
invariant-loop-day l =
    IsPast (said l.recurrence) l.from l.place.at l.place.passed
    × ((a : ℕ) → day_in l.first ≡ Some a → l.dates.items ++ map date_of (occurrences_in (said l.recurrence) l.from l.to) ≡ map date_of (occurrences_in (said l.recurrence) a l.to))

abbrev pub decreases-loop-day : goal.decreases-loop-day
decreases-loop-day l = 84_006 - l.from
