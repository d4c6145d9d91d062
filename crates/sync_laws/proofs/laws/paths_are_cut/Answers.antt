use Rattle.sync_laws.proofs.Paths.{paths_cut}
use Rattle.sync_laws.proofs.laws.paths_are_cut.Goals as goal

pub returns : goal.returns
returns c = paths_cut
