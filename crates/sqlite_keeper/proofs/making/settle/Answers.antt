use Rattle.std.proofs.Common.{arith}
use Rattle.sqlite.specs.State.{HasCleanDisk}
use Rattle.sqlite.specs.Held.{state}
use Rattle.sqlite_keeper.proofs.MoveLemmas.{settles}
use Rattle.sqlite_keeper.proofs.Results.{on_ok}
use Rattle.sqlite_keeper.proofs.making.settle.Goals as goal

pub returns-clause-settled : goal.returns-clause-settled
returns-clause-settled g c clean has =
    let early : HasCleanDisk (state g.S.Store c.run.new.tx.conn.now) = omega (arith, c.run-2.ensures.survives.clean) in
    let one = c.in_ok-run.ensures.ran early has.within.inside in
    on_ok c.run-2.result (λ last. settles g.S.Store c.args.tx.now.conn.now c.run.new.tx.conn.now c.run-2.new.tx.conn.now has one.0 last.0 one.1 last.1)
    (rw (c.params-to_sql.ensures, c.params-to_sql-2.ensures) at (c.run-2.ensures.ran clean one.1.1.mode))
