use Rattle.sync_laws.proofs.Played.{one_told}
use Rattle.sync_laws.proofs.laws.one_refusal_is_told.Goals as goal

pub returns : goal.returns
returns c = one_told
