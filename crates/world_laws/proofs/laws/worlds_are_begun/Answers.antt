use Rattle.world_laws.proofs.Counted.{worlds_begun}
use Rattle.world_laws.proofs.laws.worlds_are_begun.Goals as goal

pub returns : goal.returns
returns c = worlds_begun
