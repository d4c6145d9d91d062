use Rattle.sync_laws.proofs.Turning.{talks_end_so}
use Rattle.sync_laws.proofs.laws.talks_end.Goals as goal

pub returns : goal.returns
returns c = talks_end_so
