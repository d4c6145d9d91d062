use Rattle.std.proofs.Common.{rules, arith, ◌∙◌, ◌≤◌}
use Rattle.sqlite.specs.State.{HasCleanDisk}
use Rattle.sqlite.specs.Held.{state}
use Rattle.sqlite_keeper.proofs.MakeLemmas.{made_all}
use Rattle.sqlite_keeper.specs.Adopting.{IsReason}
use Rattle.sqlite_keeper.proofs.RefuseLemmas.{first_reason, second_reason, third_reason, fourth_reason}
use Rattle.sqlite_keeper.proofs.CauseLemmas.{reason_after, reason_since}
use Rattle.sqlite_keeper.proofs.Results.{on_ok, if_err}
use Rattle.sqlite_keeper.proofs.making.make_in.Goals as goal

pub returns-clause-made : goal.returns-clause-made
returns-clause-made g c clean k begins =
    let last : HasCleanDisk (state g.S.Store c.run-3.new.tx.conn.now) = omega (arith, c.run-4.ensures.survives.clean) in
    let late : HasCleanDisk (state g.S.Store c.run-2.new.tx.conn.now) = omega (arith, last, c.run-3.ensures.survives.clean) in
    let early : HasCleanDisk (state g.S.Store c.run.new.tx.conn.now) = omega (arith, late, c.run-2.ensures.survives.clean) in
    let one = c.in_ok-run.ensures.ran early begins.inside in
    let two = c.in_ok-run-2.ensures.ran late one.1.1.mode in
    let three = c.in_ok-run-3.ensures.ran last two.1.1.mode in
    on_ok c.run-4.result (λ four. made_all g.S.Store c.args.tx.now.conn.now c.run.new.tx.conn.now k begins one.0 one.1 c.run-2.new.tx.conn.now two.0 two.1 c.run-3.new.tx.conn.now three.0 three.1 c.run-4.new.tx.conn.now four.0 four.1)
    (rw (c.params-to_sql.ensures, c.params-to_sql-2.ensures) at (c.run-4.ensures.ran clean three.1.1.mode))

pub returns-in_err-run-clause-reason : goal.returns-in_err-run-clause-reason
returns-in_err-run-clause-reason g c clean k begins =
    let a = c.args.tx.now.conn.now in
    let b = c.run.new.tx.conn.now in
    let reason : IsReason (state g.S.Store a) (state g.S.Store b) c.in_err-run.field-0.0 = first_reason g.S.Store a k begins b _ (c.in_err-run.ensures.stopped clean begins.inside) in
    search (rules, reason)

pub returns-in_err-run-2-clause-reason : goal.returns-in_err-run-2-clause-reason
returns-in_err-run-2-clause-reason g c clean k begins =
    let a = c.args.tx.now.conn.now in
    let b = c.run.new.tx.conn.now in
    let d = c.run-2.new.tx.conn.now in
    let early : HasCleanDisk (state g.S.Store b) = omega (arith, c.run-2.ensures.survives.clean) in
    let one = c.in_ok-run.ensures.ran early begins.inside in
    let late : IsReason (state g.S.Store b) (state g.S.Store d) c.in_err-run-2.field-0.0 = second_reason g.S.Store a b k begins one.0 one.1 d _ (c.in_err-run-2.ensures.stopped clean one.1.1.mode) in
    let reason : IsReason (state g.S.Store a) (state g.S.Store d) c.in_err-run-2.field-0.0 = reason_since _ (state g.S.Store a) (state g.S.Store b) (state g.S.Store d) c.run.ensures.survives.counts c.run.ensures.survives.limit late in
    search (rules, reason)

pub returns-in_err-run-3-clause-reason : goal.returns-in_err-run-3-clause-reason
returns-in_err-run-3-clause-reason g c clean k begins =
    let a = c.args.tx.now.conn.now in
    let b = c.run.new.tx.conn.now in
    let d = c.run-2.new.tx.conn.now in
    let e = c.run-3.new.tx.conn.now in
    let late : HasCleanDisk (state g.S.Store d) = omega (arith, c.run-3.ensures.survives.clean) in
    let early : HasCleanDisk (state g.S.Store b) = omega (arith, late, c.run-2.ensures.survives.clean) in
    let one = c.in_ok-run.ensures.ran early begins.inside in
    let two = c.in_ok-run-2.ensures.ran late one.1.1.mode in
    let last : IsReason (state g.S.Store d) (state g.S.Store e) c.in_err-run-3.field-0.0 = third_reason g.S.Store a b k begins one.0 one.1 d two.0 two.1 e _ (c.in_err-run-3.ensures.stopped clean two.1.1.mode) in
    let counts : (state g.S.Store a).faults ≤ (state g.S.Store d).faults = omega (arith, c.run.ensures.survives.counts, c.run-2.ensures.survives.counts) in
    let reason : IsReason (state g.S.Store a) (state g.S.Store e) c.in_err-run-3.field-0.0 = reason_since _ (state g.S.Store a) (state g.S.Store d) (state g.S.Store e) counts (c.run-2.ensures.survives.limit ∙ c.run.ensures.survives.limit) last in
    search (rules, reason)

pub returns-clause-reason : goal.returns-clause-reason
returns-clause-reason g c clean k begins =
    let a = c.args.tx.now.conn.now in
    let b = c.run.new.tx.conn.now in
    let d = c.run-2.new.tx.conn.now in
    let e = c.run-3.new.tx.conn.now in
    let f = c.run-4.new.tx.conn.now in
    let last : HasCleanDisk (state g.S.Store e) = omega (arith, c.run-4.ensures.survives.clean) in
    let late : HasCleanDisk (state g.S.Store d) = omega (arith, last, c.run-3.ensures.survives.clean) in
    let early : HasCleanDisk (state g.S.Store b) = omega (arith, late, c.run-2.ensures.survives.clean) in
    let one = c.in_ok-run.ensures.ran early begins.inside in
    let two = c.in_ok-run-2.ensures.ran late one.1.1.mode in
    let three = c.in_ok-run-3.ensures.ran last two.1.1.mode in
    let counts : (state g.S.Store a).faults ≤ (state g.S.Store e).faults = omega (arith, c.run.ensures.survives.counts, c.run-2.ensures.survives.counts, c.run-3.ensures.survives.counts) in
    reason_after c.run-4.result (state g.S.Store a) (state g.S.Store e) (state g.S.Store f) counts (c.run-3.ensures.survives.limit ∙ c.run-2.ensures.survives.limit ∙ c.run.ensures.survives.limit)
    (if_err c.run-4.result (λ why failed. fourth_reason g.S.Store a b k begins one.0 one.1 d two.0 two.1 e three.0 three.1 f why failed) (rw (c.params-to_sql.ensures, c.params-to_sql-2.ensures) at (c.run-4.ensures.stopped clean three.1.1.mode)))
