use Rattle.std.proofs.Common.{arith, pos, ◌≤ℤ◌, ℤ, sym, ◌∙◌, subst}
use Rattle.jiff_core.proofs.SignedLemmas.{signed_casts}
use Rattle.hybrid_clock.proofs.Days.{days_from_1970}
use Rattle.hybrid_clock.proofs.parse.number_of.Goals as goal
use Rattle.hybrid_clock.proofs.parse.number_of.Goals.{After-to_unix_epoch_day}

from_zero : (c : After-to_unix_epoch_day) → pos 0 ≤ℤ c.to_unix_epoch_day.result
from_zero c = let P : ℤ → Type 0 = λ z. pos 0 ≤ℤ z in
    subst P (sym c.to_unix_epoch_day.ensures.value) (days_from_1970 c.args.date.year c.args.date.month c.args.date.day c.args.date.day_in.0 c.requires)

pub overflow_cast-result : goal.overflow_cast-result
overflow_cast-result c = omega (arith, signed_casts, from_zero c, c.to_unix_epoch_day.ensures.bound)

pub returns-clause-value : goal.returns-clause-value
returns-clause-value c = sym c.to_unix_epoch_day.ensures.value ∙ omega (arith, signed_casts, from_zero c, c.to_unix_epoch_day.ensures.bound)

pub returns-clause-bound : goal.returns-clause-bound
returns-clause-bound c = omega (arith, signed_casts, from_zero c, c.to_unix_epoch_day.ensures.bound)
