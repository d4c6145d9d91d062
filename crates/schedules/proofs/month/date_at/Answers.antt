use Rattle.std.proofs.Common.{arith, ◌≡◌, pos}
use Rattle.jiff_core.specs.Date.{epoch_day}
use Rattle.jiff_core.proofs.SignedLemmas.{signed_arith}
use Rattle.jiff_core.proofs.DateLemmas.{civil}
use Rattle.schedules.proofs.Years.{year_from_1970, year_to_2199}
use Rattle.schedules.proofs.month.date_at.Goals as goal
use Rattle.schedules.proofs.month.date_at.Goals.{After-from_days_since_min}

number : (c : After-from_days_since_min) → epoch_day c.from_days_since_min.result ≡ pos c.args.day
number c = omega (arith, signed_arith, c.from_days_since_min.ensures)

pub returns-clause-from : goal.returns-clause-from
returns-clause-from c = year_from_1970 _ _ _ c.args.day (civil c.from_days_since_min.result) (number c)

pub returns-clause-to : goal.returns-clause-to
returns-clause-to c = year_to_2199 _ _ _ c.args.day (civil c.from_days_since_min.result) (number c) c.requires
