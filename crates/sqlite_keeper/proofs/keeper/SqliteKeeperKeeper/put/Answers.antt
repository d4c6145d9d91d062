use Rattle.std.proofs.Common.{◌≡◌, ◌⊎◌, inl, inr, subst, arith}
use Rattle.sqlite.specs.State.{HasCleanDisk}
use Rattle.sqlite.specs.Held.{state}
use Rattle.sqlite_keeper.specs.Contents.{Sound, contents_now, with_text}
use Rattle.sqlite_keeper.specs.Keeping.{Keeping, TellsAll, MayBeLeft}
use Rattle.sqlite_keeper.proofs.keeper.SqliteKeeperKeeper.put.Goals as goal

pub returns-in-Ok-clause-left : goal.returns-in-Ok-clause-left
returns-in-Ok-clause-left g c k left =
    let early : HasCleanDisk (state g.S.Store c.self.inside.conn) = let clean = left.clean in omega (arith, c.try_put.ensures.clean) in
    let sound : Sound g.S.Store c.self.inside.conn = c.self.invariant left.unshut left.ours in
    subst (λ (v : Keeping g.row.S.Denot). MayBeLeft g.S.Store v k ⊎ (TellsAll g.S.Store v × (k ≡ with_text (contents_now g.S.Store v.conn) c.args.name.now c.args.text.now))) c.self.view_is
    (elim (c.try_put.ensures.left left.clean sound k left.left) [
      | inl was ↦ inl (record { unshut = left.unshut; ours = left.ours; clean = early; left = was })
      | inr is ↦ inr (record { unshut = left.unshut; ours = left.ours; clean = early; is_open = is.0 }, rw (c.as_str.ensures, c.as_str-2.ensures) at is.1)
    ])

pub returns-in-Err-clause-left : goal.returns-in-Err-clause-left
returns-in-Err-clause-left g c k left =
    let early : HasCleanDisk (state g.S.Store c.self.inside.conn) = let clean = left.clean in omega (arith, c.try_put.ensures.clean) in
    let sound : Sound g.S.Store c.self.inside.conn = c.self.invariant left.unshut left.ours in
    subst (λ (v : Keeping g.row.S.Denot). MayBeLeft g.S.Store v k ⊎ (TellsAll g.S.Store v × (k ≡ with_text (contents_now g.S.Store v.conn) c.args.name.now c.args.text.now))) c.self.view_is
    (elim (c.try_put.ensures.left left.clean sound k left.left) [
      | inl was ↦ inl (record { unshut = left.unshut; ours = left.ours; clean = early; left = was })
      | inr is ↦ inr (record { unshut = left.unshut; ours = left.ours; clean = early; is_open = is.0 }, rw (c.as_str.ensures, c.as_str-2.ensures) at is.1)
    ])

pub returns-in-Ok-clause-alone : goal.returns-in-Ok-clause-alone
returns-in-Ok-clause-alone g c k left =
    let sound : Sound g.S.Store c.self.inside.conn = c.self.invariant left.unshut left.ours in
    let is = c.in-Ok.ensures.alone left.clean sound k left.left in
    (record { unshut = left.unshut; ours = left.ours; clean = left.clean; is_open = is.0 }, is.1)
