use Rattle.sync_laws.proofs.Paths.{files_apart}
use Rattle.sync_laws.proofs.laws.files_are_apart.Goals as goal

pub returns : goal.returns
returns c = files_apart
