use Rattle.hybrid_clock.proofs.Moving.{clocks_begin_lem}
use Rattle.hybrid_clock.proofs.laws.clocks_begin.Goals as goal

pub returns : goal.returns
returns c = clocks_begin_lem
