use Rattle.std.proofs.Common.{inl, inr, sym, true≢false}
use Rattle.sqlite_keeper.proofs.Calls.{left_alone}
use Rattle.sqlite_keeper.proofs.keeper.SqliteKeeper.begin.Goals as goal

pub over-requires : goal.over-requires
over-requires g c known clean is_open = let k = c.requires.known known in (c.in-Ok.ensures.made clean k.0 k.1).0

pub returns-in-Ok-clause-made : goal.returns-in-Ok-clause-made
returns-in-Ok-clause-made g c = rw c.over.ensures (λ k may unshut clean. let it = c.in-Ok.ensures.made clean k may in (it.0.rests.is_open, it.1))

pub returns-in-Ok-clause-emptied : goal.returns-in-Ok-clause-emptied
returns-in-Ok-clause-emptied g c = rw c.over.ensures (λ new k may unshut clean. c.in-Ok.ensures.emptied clean new k may)

pub returns-in-Ok-clause-alone : goal.returns-in-Ok-clause-alone
returns-in-Ok-clause-alone g c = rw c.over.ensures (λ k left.
    let w = c.requires.known left.ours in
    let stands = (c.in-Ok.ensures.made left.clean w.0 w.1).0 in
    (record { unshut = left.unshut; ours = left.ours; clean = left.clean; is_open = stands.rests.is_open }, left_alone g.S.Store c.make.new.conn k (λ db is_open there. g.met.S.Store.settled c.make.new.conn.store db is_open there) stands left.left))

pub returns-in-Ok-clause-left : goal.returns-in-Ok-clause-left
returns-in-Ok-clause-left g c = rw c.over.ensures (λ k may clean. c.make.ensures.left clean k may)

pub returns-then-is_memory-clause-left_back : goal.returns-then-is_memory-clause-left_back
returns-then-is_memory-clause-left_back g c k may clean = c.make.ensures.left clean k may

pub returns-then-is_memory-clause-same : goal.returns-then-is_memory-clause-same
returns-then-is_memory-clause-same g c k may clean is_open = (c.in-Err.ensures.failed clean k may is_open).1

pub returns-then-is_memory-clause-told : goal.returns-then-is_memory-clause-told
returns-then-is_memory-clause-told g c clean is_open = c.in-Err.ensures.opened clean is_open

pub returns-then-not-is_known-clause-left_back : goal.returns-then-not-is_known-clause-left_back
returns-then-not-is_known-clause-left_back g c k may clean = c.make.ensures.left clean k may

pub returns-then-not-is_known-clause-same : goal.returns-then-not-is_known-clause-same
returns-then-not-is_known-clause-same g c k may clean is_open = (c.in-Err.ensures.failed clean k may is_open).1

pub returns-then-not-is_known-clause-told : goal.returns-then-not-is_known-clause-told
returns-then-not-is_known-clause-told g c clean is_open = c.in-Err.ensures.opened clean is_open

pub returns-else-not-is_known-clause-shut : goal.returns-else-not-is_known-clause-shut
returns-else-not-is_known-clause-shut g c = rw c.shut.ensures (λ shut k may clean is_open. ((c.in-Err.ensures.failed clean k may is_open).1, c.in-Err.ensures.opened clean is_open))

pub returns-else-not-is_known-clause-reason : goal.returns-else-not-is_known-clause-reason
returns-else-not-is_known-clause-reason g c = rw c.shut.ensures (λ shut new k may is_open clean. elim (c.in-Err.ensures.reason clean new k may is_open) [
  | inl memory ↦ absurd (true≢false (sym (c.if-is_memory.ensures.1 memory)))
  | inr has ↦ has
])

pub returns-else-not-is_known-clause-left : goal.returns-else-not-is_known-clause-left
returns-else-not-is_known-clause-left g c = rw c.shut.ensures (λ k may clean. c.make.ensures.left clean k may)
