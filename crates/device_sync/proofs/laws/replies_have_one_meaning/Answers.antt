use Rattle.device_sync.proofs.Judging.{one_judgment}
use Rattle.device_sync.proofs.laws.replies_have_one_meaning.Goals as goal

pub returns : goal.returns
returns c = one_judgment
