use Rattle.sync_laws.proofs.Bodies.{bodies}
use Rattle.sync_laws.proofs.laws.bodies_decide.Goals as goal

pub returns : goal.returns
returns c = bodies c.connections_are_decided.ensures
