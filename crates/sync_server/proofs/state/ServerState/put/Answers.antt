use Rattle.std.proofs.Common.{refl}
use Rattle.sync_server.proofs.Sets.{puts_at}
use Rattle.sync_server.proofs.state.ServerState.put.Goals as goal

pub returns-clause-ok : goal.returns-clause-ok
returns-clause-ok c = puts_at c.args.self.now _ _ _ _ _ c.in_ok-group.ensures refl c.in_ok-insert.ensures.updates
