use Rattle.sync_laws.proofs.Replies.{statuses}
use Rattle.sync_laws.proofs.laws.statuses_are_written.Goals as goal

pub returns : goal.returns
returns c = statuses
