use Rattle.sync_laws.proofs.Asking.{last_syncs_apart}
use Rattle.sync_laws.proofs.laws.last_syncs_are_apart.Goals as goal

pub returns : goal.returns
returns c = last_syncs_apart
