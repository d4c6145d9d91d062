use Rattle.sync_laws.proofs.Equal.{servers_equal}
use Rattle.sync_laws.proofs.laws.servers_answer_equally.Goals as goal

pub returns : goal.returns
returns c = servers_equal c.connections_are_decided.ensures c.accepted_are_kept.ensures
