use Rattle.std.proofs.Common.{subst, arith}
use Rattle.sqlite.specs.State.{HasCleanDisk}
use Rattle.sqlite.specs.Held.{state}
use Rattle.sqlite_keeper.specs.Contents.{Sound}
use Rattle.sqlite_keeper.specs.Keeping.{Keeping, MayBeLeft}
use Rattle.sqlite_keeper.proofs.keeper.SqliteKeeperKeeper.since.Goals as goal

pub returns-in-Err-clause-left : goal.returns-in-Err-clause-left
returns-in-Err-clause-left g c k left =
    let early : HasCleanDisk (state g.S.Store c.self.inside.conn) = let clean = left.clean in omega (arith, c.try_since.ensures.clean) in
    let sound : Sound g.S.Store c.self.inside.conn = c.self.invariant left.unshut left.ours in
    subst (λ (v : Keeping g.row.S.Denot). MayBeLeft g.S.Store v k) c.self.view_is
    (record { unshut = left.unshut; ours = left.ours; clean = early; left = c.try_since.ensures.left left.clean sound k left.left })

pub returns-in-Ok-clause-left : goal.returns-in-Ok-clause-left
returns-in-Ok-clause-left g c k left =
    let early : HasCleanDisk (state g.S.Store c.self.inside.conn) = let clean = left.clean in omega (arith, c.try_since.ensures.clean) in
    let sound : Sound g.S.Store c.self.inside.conn = c.self.invariant left.unshut left.ours in
    subst (λ (v : Keeping g.row.S.Denot). MayBeLeft g.S.Store v k) c.self.view_is
    (record { unshut = left.unshut; ours = left.ours; clean = early; left = c.try_since.ensures.left left.clean sound k left.left })
