use Rattle.hybrid_clock.proofs.Days.{dates_are_civil}
use Rattle.hybrid_clock.proofs.laws.date_of_number.Goals as goal

pub returns : goal.returns
returns c = dates_are_civil
