use Rattle.kept_pairs.proofs.Near.{near_told}
use Rattle.kept_pairs.proofs.laws.nearness_is_told.Goals as goal

pub returns : goal.returns
returns c = near_told
