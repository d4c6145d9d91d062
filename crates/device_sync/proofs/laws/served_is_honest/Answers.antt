use Rattle.device_sync.proofs.Serving.{served_honest}
use Rattle.device_sync.proofs.laws.served_is_honest.Goals as goal

pub returns : goal.returns
returns c = served_honest c.accepted_are_kept.ensures
