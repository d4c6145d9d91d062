use Rattle.std.proofs.Common.{arith, [], refl, inr}
use Rattle.sqlite.specs.State.{HasCleanDisk, Shown}
use Rattle.sqlite.specs.Held.{state}
use Rattle.store_tables.specs.Texts.{all_text, moved_tables}
use Rattle.store_tables.proofs.KnownTables.{known}
use Rattle.store_tables.proofs.WithinLemmas.{fails, query_fell}
use Rattle.sqlite_keeper.proofs.MoveLemmas.{item_rows, within_now, are_copied, fell_copying}
use Rattle.sqlite_keeper.proofs.Results.{on_ok, on_err}
use Rattle.sqlite_keeper.proofs.making.copy_items.Goals as goal

pub returns-in_err-rows-clause-fell : goal.returns-in_err-rows-clause-fell
returns-in_err-rows-clause-fell g c clean has = fails c.from_residual.result (query_fell g.S.Store c.args.tx.now.conn.now c.query_all.new.self.conn.now all_text [] c.in_err-rows.field-0.0 (c.in_err-rows.ensures.err clean))

pub returns-clause-copied : goal.returns-clause-copied
returns-clause-copied g c clean has =
    let old = c.args.tx.now.conn.now in
    let mid = c.query_all.new.self.conn.now in
    let new = c.copy_all.new.tx.conn.now in
    let early : HasCleanDisk (state g.S.Store mid) = omega (arith, c.copy_all.ensures.survives.clean) in
    let rows = c.deref.result.now in
    let shown : Shown all_text [] (state g.S.Store old) (state g.S.Store mid) rows = rw (c.deref.ensures.value) (c.in_ok-rows.ensures.ok early) in
    let k = known moved_tables (inr refl) in
    on_ok c.copy_all.result (are_copied g.S.Store old mid has rows shown new)
    (c.copy_all.ensures.copied clean moved_tables k.layout k.texts (item_rows g.S.Store old mid has rows shown) (within_now g.S.Store old mid has rows shown))

pub returns-clause-fell : goal.returns-clause-fell
returns-clause-fell g c clean has =
    let old = c.args.tx.now.conn.now in
    let mid = c.query_all.new.self.conn.now in
    let new = c.copy_all.new.tx.conn.now in
    let early : HasCleanDisk (state g.S.Store mid) = omega (arith, c.copy_all.ensures.survives.clean) in
    let rows = c.deref.result.now in
    let shown : Shown all_text [] (state g.S.Store old) (state g.S.Store mid) rows = rw (c.deref.ensures.value) (c.in_ok-rows.ensures.ok early) in
    let k = known moved_tables (inr refl) in
    on_err c.copy_all.result (fell_copying g.S.Store old mid has rows shown new)
    (c.copy_all.ensures.fell clean moved_tables k.layout k.texts (item_rows g.S.Store old mid has rows shown) (within_now g.S.Store old mid has rows shown))
