use Rattle.tracking_budget.proofs.Naming.{track_names_are_read_lem}
use Rattle.tracking_budget.proofs.laws.track_names_are_read.Goals as goal

pub returns : goal.returns
returns c = track_names_are_read_lem
