use Rattle.std.proofs.Common.{rules, arith, refl, ◌∙◌}
use Rattle.sqlite.specs.State.{HasCleanDisk, Survives}
use Rattle.sqlite.specs.Held.{state}
use Rattle.sqlite_rules.proofs.ListLemmas.{has_at}
use Rattle.store_tables.proofs.WithinLemmas.{fails}
use Rattle.store_tables.proofs.CopyLemmas.{begins, copies_on, fell_later}
use Rattle.store_tables.proofs.copying.copy_all.Goals as goal

pub loop-row-init : goal.loop-row-init
loop-row-init g c = (refl, search rules, λ clean t l m items was. (begins t g.S.Store c.args.tx.now.conn.now c.args.rows.now was, tt))

pub loop-row-preserved : goal.loop-row-preserved
loop-row-preserved g c =
    let old = c.args.tx.now.conn.now in
    let mid = c.loop-row.tx.conn.now in
    let new = c.copy_row.new.tx.conn.now in
    let survives : Survives (state g.S.Store old) (state g.S.Store new) (λ _. ⊥) = search rules in (
      c.copy_row.ensures.same_reference ∙ c.loop-row.invariant.0,
      survives,
      λ clean t l m items was.
          let early : HasCleanDisk (state g.S.Store mid) = omega (arith, c.copy_row.ensures.survives.clean, clean) in
          let before = c.loop-row.invariant.2 early t l m items was in
          let item = items c.row-item.result (has_at c.args.rows.now c.loop-row.row-index c.row-item.result c.loop-row-test.true c.row-item.is) in
          let one = c.in_ok-copy_row.ensures.copied clean t l m item before.0.goes.within before.1 in (
            copies_on t g.S.Store old mid new c.args.rows.now c.loop-row.row-index c.row-item.result c.loop-row-test.true c.row-item.is before.0 one.0,
            one.1,
          ),
    )

pub returns-in_err-copy_row-clause-fell : goal.returns-in_err-copy_row-clause-fell
returns-in_err-copy_row-clause-fell g c clean t l m items was =
    let old = c.args.tx.now.conn.now in
    let mid = c.loop-row.tx.conn.now in
    let new = c.copy_row.new.tx.conn.now in
    let early : HasCleanDisk (state g.S.Store mid) = omega (arith, c.copy_row.ensures.survives.clean, clean) in
    let before = c.loop-row.invariant.2 early t l m items was in
    let item = items c.row-item.result (has_at c.args.rows.now c.loop-row.row-index c.row-item.result c.loop-row-test.true c.row-item.is) in
    fails c.from_residual.result (fell_later t g.S.Store old mid new c.args.rows.now _ was before.0 (c.in_err-copy_row.ensures.fell clean t l m item before.0.goes.within before.1))
