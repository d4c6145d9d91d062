use Rattle.std.proofs.Common.{arith}
use Rattle.jiff_core.proofs.SignedLemmas.{signed_casts}
use Rattle.hybrid_clock.proofs.Days.{number_is}
use Rattle.hybrid_clock.proofs.parse.day_number.Goals as goal

pub returns-clause-value : goal.returns-clause-value
returns-clause-value c =
    number_is c.in-Ok.date c.args.year c.args.month c.args.day c.number_of.result
    (omega (arith, signed_casts, c.in-Ok.ensures.value.0)) (omega (arith, signed_casts, c.in-Ok.ensures.value.1)) (omega (arith, signed_casts, c.in-Ok.ensures.value.2))
    c.number_of.ensures.value c.if-year-lt1970.false
