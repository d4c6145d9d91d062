use Rattle.sync_laws.proofs.Turning.{talks_begin_so}
use Rattle.sync_laws.proofs.laws.talks_begin.Goals as goal

pub returns : goal.returns
returns c = talks_begin_so
