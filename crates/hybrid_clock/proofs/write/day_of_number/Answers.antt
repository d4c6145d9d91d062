use Rattle.std.proofs.Common.{arith, w16, FitsSigned, refl}
use Rattle.std.proofs.lemmas.Int.{ints, to_z-of_z}
use Rattle.hybrid_clock.proofs.Days.{date_day, day_is}
use Rattle.hybrid_clock.proofs.write.day_of_number.Goals as goal

pub overflow_cast-result : goal.overflow_cast-result
overflow_cast-result c =
    let s = date_day c.from_days_since_min-date.result c.args.number c.requires c.from_days_since_min-date.ensures in
    let is = day_is c.args.number (omega arith) in
    let small = is.to in
    let fits : FitsSigned w16 c.from_days_since_min-date.result.year = omega (arith, ints, s.0) in
    rw to_z-of_z (omega (arith, ints, s.0), omega (arith, ints, s.0))

pub returns-clause-value : goal.returns-clause-value
returns-clause-value c =
    let s = date_day c.from_days_since_min-date.result c.args.number c.requires c.from_days_since_min-date.ensures in
    let is = day_is c.args.number (omega arith) in
    let small = is.to in
    let fits : FitsSigned w16 c.from_days_since_min-date.result.year = omega (arith, ints, s.0) in
    rw (to_z-of_z, s.0, s.1, s.2) refl
