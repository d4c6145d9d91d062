use Rattle.sync_wire.proofs.Last.{last_ones}
use Rattle.sync_wire.proofs.laws.last_ones_count.Goals as goal

pub returns : goal.returns
returns c = last_ones
