use Rattle.std.proofs.Common.{arith}
use Rattle.sqlite.specs.State.{HasCleanDisk}
use Rattle.sqlite.specs.Held.{state}
use Rattle.sqlite_keeper.proofs.MoveLemmas.{widens}
use Rattle.sqlite_keeper.proofs.Results.{on_ok}
use Rattle.sqlite_keeper.proofs.making.widen.Goals as goal

pub returns-clause-widened : goal.returns-clause-widened
returns-clause-widened g c clean k begins =
    let early : HasCleanDisk (state g.S.Store c.run.new.tx.conn.now) = omega (arith, c.run-2.ensures.survives.clean) in
    let one = c.in_ok-run.ensures.ran early begins.inside in
    on_ok c.run-2.result (λ last. widens g.S.Store c.args.tx.now.conn.now c.run.new.tx.conn.now c.run-2.new.tx.conn.now k begins one.0 last.0 one.1 last.1) (c.run-2.ensures.ran clean one.1.1.mode)
