use Rattle.sync_laws.proofs.Counting.{envelopes_counted}
use Rattle.sync_laws.proofs.laws.envelopes_count.Goals as goal

pub returns : goal.returns
returns c = envelopes_counted
