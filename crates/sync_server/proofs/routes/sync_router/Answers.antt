use Rattle.matchit.proofs.OnLiterals.{matchit_on_literals}
use Rattle.sync_server.proofs.routes.sync_router.Goals as goal

pub returns : goal.returns
unfolding matchit_on_literals
returns c =
    let rows = rw c.new-router.ensures at c.in_ok-insert.ensures in
    (_, rows.1)
