use Rattle.world_laws.proofs.Begun.{world_begun}
use Rattle.world_laws.proofs.laws.worlds_begin.Goals as goal

pub returns : goal.returns
returns c = world_begun
