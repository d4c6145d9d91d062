use Rattle.std.proofs.Common.{refl}
use Rattle.sync_server.proofs.Sets.{not_at}
use Rattle.sync_server.proofs.state.ServerState.forget.Goals as goal

pub returns : goal.returns
returns c = record { token = refl; here = c.remove.ensures.updates.1; others = λ q n. c.remove.ensures.updates.2 q (not_at c.args.group.now q n) }
