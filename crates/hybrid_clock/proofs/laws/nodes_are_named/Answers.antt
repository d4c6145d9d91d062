use Rattle.hybrid_clock.proofs.Naming.{nodes_are_named_lem}
use Rattle.hybrid_clock.proofs.laws.nodes_are_named.Goals as goal

pub returns : goal.returns
returns c = nodes_are_named_lem
