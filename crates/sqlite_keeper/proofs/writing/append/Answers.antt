use Rattle.std.proofs.Common.{rules, arith, ◌≡◌, OnOk}
use Rattle.sqlite.specs.State.{HasCleanDisk}
use Rattle.sqlite.specs.Held.{Held, state}
use Rattle.sqlite_keeper.specs.Contents.{Stands, LeavesItself, contents_now, appended}
use Rattle.sqlite_keeper.proofs.Calls.{begun, adds_stand, adds_alone}
use Rattle.sqlite_keeper.proofs.Results.{on_ok}
use Rattle.sqlite_keeper.proofs.writing.append.Goals as goal

pub returns-clause-done : goal.returns-clause-done
returns-clause-done g c clean was =
    let mid = c.append_in.new.tx.conn.now in
    let new : Held g.row.S.Denot = c.commit.new.self.0 in
    let late : HasCleanDisk (state g.S.Store new) = search (rules, clean) in
    let early : HasCleanDisk (state g.S.Store mid) = omega (arith, late, c.commit.ensures.survives.clean) in
    let adds = c.in_ok-append_in.ensures.done early (begun g.S.Store c.args.conn.now c.transaction-tx.result.conn.now c.transaction-tx.ensures.begun was.rests.is_open was.kept) in
    let fact : OnOk c.commit.result (Stands g.S.Store new × (contents_now g.S.Store new ≡ appended (contents_now g.S.Store c.args.conn.now) c.args.group.now c.args.batch.now)) =
    on_ok c.commit.result (λ ok. adds_stand g.S.Store c.args.conn.now c.transaction-tx.result.conn.now mid new c.args.group.now c.args.batch.now c.transaction-tx.ensures.begun late c.commit.ensures.ended adds ok.1) (c.commit.ensures.ok late) in
    search (rules, fact)

pub returns-clause-alone : goal.returns-clause-alone
returns-clause-alone g c clean was =
    let new : Held g.row.S.Denot = c.commit.new.self.0 in
    let late : HasCleanDisk (state g.S.Store new) = search (rules, clean) in
    let fact : OnOk c.commit.result (LeavesItself g.S.Store new) =
    on_ok c.commit.result (λ ok. adds_alone g.S.Store c.append_in.new.tx.conn.now new (λ db is_open there. g.met.S.Store.settled new.store db is_open there) ok.1) (c.commit.ensures.ok late) in
    search (rules, fact)
