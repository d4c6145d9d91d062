use Rattle.hybrid_clock.proofs.Moving.{draws_are_refused, receives_are_refused}
use Rattle.hybrid_clock.proofs.laws.clocks_refuse.Goals as goal

pub returns-clause-draws : goal.returns-clause-draws
returns-clause-draws c = draws_are_refused

pub returns-clause-receives : goal.returns-clause-receives
returns-clause-receives c = receives_are_refused
