use Rattle.std.proofs.Common.{arith, ◌∙◌}
use Rattle.sqlite.specs.State.{HasCleanDisk}
use Rattle.sqlite.specs.Held.{state}
use Rattle.store_tables.proofs.WithinLemmas.{fails}
use Rattle.sqlite_keeper.proofs.MoveLemmas.{copies_of, moves, fell_from}
use Rattle.sqlite_keeper.proofs.Results.{on_ok, on_err}
use Rattle.sqlite_keeper.proofs.making.move_in.Goals as goal

pub returns-in_err-widen-clause-fell : goal.returns-in_err-widen-clause-fell
returns-in_err-widen-clause-fell g c clean k begins = fails c.from_residual.result (c.in_err-widen.ensures.fell clean begins.inside)

pub returns-in_err-widen-clause-opened : goal.returns-in_err-widen-clause-opened
returns-in_err-widen-clause-opened g c clean inside is_open = fails c.from_residual.result ((c.in_err-widen.ensures.fell clean inside).was_open is_open)

pub returns-in_err-copy_items-clause-fell : goal.returns-in_err-copy_items-clause-fell
returns-in_err-copy_items-clause-fell g c clean k begins =
    let early : HasCleanDisk (state g.S.Store c.widen.new.tx.conn.now) = omega (arith, c.copy_items.ensures.survives.clean) in
    let one = c.in_ok-widen.ensures.widened early k begins in
    fails c.from_residual-in_err-copy_items.result (fell_from g.S.Store c.args.tx.now.conn.now c.widen.new.tx.conn.now c.copy_items.new.tx.conn.now begins.is_open one.committed (c.in_err-copy_items.ensures.fell clean one.has))

pub returns-in_err-copy_items-clause-opened : goal.returns-in_err-copy_items-clause-opened
returns-in_err-copy_items-clause-opened g c clean inside is_open =
    let early : HasCleanDisk (state g.S.Store c.widen.new.tx.conn.now) = omega (arith, c.copy_items.ensures.survives.clean) in
    fails c.from_residual-in_err-copy_items.result (c.in_ok-widen.ensures.told early inside)

pub returns-clause-made : goal.returns-clause-made
returns-clause-made g c clean k begins =
    let late : HasCleanDisk (state g.S.Store c.copy_items.new.tx.conn.now) = omega (arith, c.settle.ensures.survives.clean) in
    let early : HasCleanDisk (state g.S.Store c.widen.new.tx.conn.now) = omega (arith, late, c.copy_items.ensures.survives.clean) in
    let one = c.in_ok-widen.ensures.widened early k begins in
    let two = c.in_ok-copy_items.ensures.copied late one.has in
    on_ok c.settle.result (moves g.S.Store c.args.tx.now.conn.now c.widen.new.tx.conn.now c.copy_items.new.tx.conn.now c.settle.new.tx.conn.now k begins one two)
    (c.settle.ensures.settled clean (copies_of g.S.Store c.args.tx.now.conn.now c.widen.new.tx.conn.now c.copy_items.new.tx.conn.now one two))

pub returns-clause-emptied : goal.returns-clause-emptied
returns-clause-emptied g c clean k begins =
    let late : HasCleanDisk (state g.S.Store c.copy_items.new.tx.conn.now) = omega (arith, c.settle.ensures.survives.clean) in
    let early : HasCleanDisk (state g.S.Store c.widen.new.tx.conn.now) = omega (arith, late, c.copy_items.ensures.survives.clean) in
    let one = c.in_ok-widen.ensures.widened early k begins in
    let two = c.in_ok-copy_items.ensures.copied late one.has in
    on_ok c.settle.result (λ settled. settled.items) (c.settle.ensures.settled clean (copies_of g.S.Store c.args.tx.now.conn.now c.widen.new.tx.conn.now c.copy_items.new.tx.conn.now one two))

pub returns-clause-fell : goal.returns-clause-fell
returns-clause-fell g c clean k begins =
    let late : HasCleanDisk (state g.S.Store c.copy_items.new.tx.conn.now) = omega (arith, c.settle.ensures.survives.clean) in
    let early : HasCleanDisk (state g.S.Store c.widen.new.tx.conn.now) = omega (arith, late, c.copy_items.ensures.survives.clean) in
    let one = c.in_ok-widen.ensures.widened early k begins in
    let two = c.in_ok-copy_items.ensures.copied late one.has in
    on_err c.settle.result (fell_from g.S.Store c.args.tx.now.conn.now c.copy_items.new.tx.conn.now c.settle.new.tx.conn.now begins.is_open (two.committed ∙ one.committed)) (c.settle.ensures.fell clean two.within.inside)

pub returns-clause-opened : goal.returns-clause-opened
returns-clause-opened g c clean inside is_open =
    let late : HasCleanDisk (state g.S.Store c.copy_items.new.tx.conn.now) = omega (arith, c.settle.ensures.survives.clean) in
    let early : HasCleanDisk (state g.S.Store c.widen.new.tx.conn.now) = omega (arith, late, c.copy_items.ensures.survives.clean) in
    fails c.settle.result (c.in_ok-widen.ensures.told early inside)
