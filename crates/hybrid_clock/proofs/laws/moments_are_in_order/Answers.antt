use Rattle.hybrid_clock.proofs.Moments.{moments_are_in_order_lem}
use Rattle.hybrid_clock.proofs.laws.moments_are_in_order.Goals as goal

pub returns : goal.returns
returns c = moments_are_in_order_lem
