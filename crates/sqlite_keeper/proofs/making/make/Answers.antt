use Rattle.std.proofs.Common.{rules, arith, ◌≡◌, true, IfErr, subst, sym}
use Rattle.sqlite.specs.State.{HasCleanDisk}
use Rattle.sqlite.specs.Held.{Held, state}
use Rattle.sqlite_keeper.specs.Adopting.{Begins, IsReason}
use Rattle.sqlite_keeper.proofs.Calls.{begins_as}
use Rattle.sqlite_keeper.proofs.CauseLemmas.{reason_since}
use Rattle.sqlite_keeper.proofs.StopLemmas.{commit_reason, reason_on, reason_begun}
use Rattle.sqlite_keeper.proofs.Results.{if_err}
use Rattle.sqlite_keeper.proofs.making.make.Goals as goal

pub returns-in_err-turn_in-clause-reason : goal.returns-in_err-turn_in-clause-reason
returns-in_err-turn_in-clause-reason g c clean is_new k may is_open =
    let old = c.args.conn.now in
    let tx = c.transaction-tx.result.conn.now in
    let mid = c.turn_in.new.tx.conn.now in
    let new : Held g.row.S.Denot = c.drop-tx.new.self.0 in
    let late : HasCleanDisk (state g.S.Store new) = search (rules, clean) in
    let early : HasCleanDisk (state g.S.Store mid) = omega (arith, late, c.drop-tx.ensures.survives.clean) in
    let begun : HasCleanDisk (state g.S.Store tx) = omega (arith, early, c.turn_in.ensures.survives.clean) in
    let begins = begins_as g.S.Store true old tx k c.transaction-tx.ensures.begun begun may is_open in
    let reason : IsReason (state g.S.Store old) (state g.S.Store new) c.in_err-turn_in.field-0.0 =
    reason_begun g.S.Store old tx new _ c.transaction-tx.ensures.begun (reason_on (state g.S.Store tx) (state g.S.Store mid) (state g.S.Store new) _ (c.in_err-turn_in.ensures.reason early is_new k begins) c.drop-tx.ensures.survives.counts) in
    search (rules, reason)

pub returns-clause-reason : goal.returns-clause-reason
returns-clause-reason g c clean is_new k may is_open =
    let old = c.args.conn.now in
    let tx = c.transaction-tx.result.conn.now in
    let mid = c.turn_in.new.tx.conn.now in
    let new : Held g.row.S.Denot = c.commit.new.self.0 in
    let late : HasCleanDisk (state g.S.Store new) = search (rules, clean) in
    let early : HasCleanDisk (state g.S.Store mid) = omega (arith, late, c.commit.ensures.survives.clean) in
    let begun : HasCleanDisk (state g.S.Store tx) = omega (arith, early, c.turn_in.ensures.survives.clean) in
    let is : c.args.is_new ≡ true = is_new in
    let begins = begins_as g.S.Store true old tx k c.transaction-tx.ensures.begun begun may is_open in
    let made = c.in_ok-turn_in.ensures.made early k (subst (λ b. Begins g.S.Store b tx k) (sym is) begins) in
    let fact : IfErr c.commit.result (IsReason (state g.S.Store old) (state g.S.Store new)) =
    if_err c.commit.result (λ e failed. reason_begun g.S.Store old tx new e c.transaction-tx.ensures.begun
    (reason_since e (state g.S.Store tx) (state g.S.Store mid) (state g.S.Store new) c.turn_in.ensures.survives.counts c.turn_in.ensures.survives.limit (commit_reason (state g.S.Store mid) (state g.S.Store new) e made.inside.is_open made.inside.inside failed))) (c.commit.ensures.err late) in
    search (rules, fact)
