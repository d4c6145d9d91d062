use Rattle.device_core.proofs.GreatestTold.{greatest_told}
use Rattle.device_core.proofs.laws.greatest_is_told.Goals as goal

pub returns : goal.returns
returns c = greatest_told
