use Rattle.sync_laws.proofs.Whole.{whole_replies}
use Rattle.sync_laws.proofs.laws.replies_are_whole.Goals as goal

pub returns : goal.returns
returns c = whole_replies
