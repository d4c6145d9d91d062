use Rattle.device_sync.proofs.Turns.{means_itself}
use Rattle.device_sync.proofs.request.request_text.Goals as goal

pub returns-clause-means : goal.returns-clause-means
returns-clause-means c = means_itself c.args.request.now _ c.in_ok-body.ensures.bytes c.in_ok-body.ensures.meaning
