use Rattle.world_laws.proofs.Told.{outcomes_told}
use Rattle.world_laws.proofs.laws.outcomes_are_told.Goals as goal

pub returns : goal.returns
returns c = outcomes_told
