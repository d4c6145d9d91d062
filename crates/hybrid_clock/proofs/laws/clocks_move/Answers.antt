use Rattle.hybrid_clock.proofs.Moving.{clocks_move_lem}
use Rattle.hybrid_clock.proofs.laws.clocks_move.Goals as goal

pub returns : goal.returns
returns c = clocks_move_lem
