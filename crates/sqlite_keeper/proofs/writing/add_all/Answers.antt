use Rattle.std.proofs.Common.{rules, arith, ◌≡◌, [], drop, ap, sym, subst, ◌∙◌, w64, to_z, of_z}
use Rattle.std.proofs.Math.ListN.{drop_of_length-le}
use Rattle.std.proofs.lemmas.Int.{to_z-of_z}
use Rattle.sqlite.specs.State.{HasCleanDisk, Survives}
use Rattle.sqlite.specs.Held.{state}
use Rattle.sqlite_value.specs.declared.value.Value.TheVariants.{Text as Words}
use Rattle.store_tables.specs.Within.{IsIdOf}
use Rattle.store_tables.proofs.KnownTables.{known}
use Rattle.store_tables.proofs.WithinLemmas.{fails}
use Rattle.sqlite_keeper.specs.Contents.{AddsOn}
use Rattle.sqlite_keeper.proofs.AppendLemmas.{adds_next, fell_late}
use Rattle.sqlite_keeper.proofs.writing.add_all.Goals as goal

pub loop-kept-preserved : goal.loop-kept-preserved
loop-kept-preserved g c =
    let old = c.args.tx.now.conn.now in
    let mid = c.loop-kept.tx.conn.now in
    let new = c.enter.new.tx.conn.now in
    let survives : Survives (state g.S.Store old) (state g.S.Store new) (λ _. ⊥) = search rules in (
      c.enter.ensures.same_reference ∙ c.loop-kept.invariant.0,
      survives,
      λ clean t second group was of.
          let early : HasCleanDisk (state g.S.Store mid) = omega (arith, c.enter.ensures.survives.clean, clean) in
          let k = known t second in
          let before = c.loop-kept.invariant.2 early t second group was of in
          let id = subst (λ rows. IsIdOf rows (to_z w64 (of_z w64 c.args.id)) group) (sym before.groups) of in
          let key = ap Words (c.as_bytes.ensures.value ∙ c.as_str.ensures) in
          let body = ap Words (c.as_bytes-in-loop-kept.ensures.value ∙ c.as_str-in-loop-kept.ensures) in
          adds_next t g.S.Store old mid new group c.args.batch.now c.loop-kept.kept-index c.kept-item.result c.loop-kept-test.true c.kept-item.is before
          (c.in_ok-enter.ensures.entered clean t k.layout k.texts group c.kept-item.result.key c.kept-item.result.body key body before.within id)
          (c.in_ok-enter.ensures.groups clean t k.layout k.texts group c.kept-item.result.key c.kept-item.result.body key body before.within id),
    )

pub returns-in_err-enter-clause-fell : goal.returns-in_err-enter-clause-fell
returns-in_err-enter-clause-fell g c clean t second group was of =
    let old = c.args.tx.now.conn.now in
    let mid = c.loop-kept.tx.conn.now in
    let new = c.enter.new.tx.conn.now in
    let early : HasCleanDisk (state g.S.Store mid) = omega (arith, c.enter.ensures.survives.clean, clean) in
    let same : to_z w64 (of_z w64 c.args.id) ≡ c.args.id = to_z-of_z w64 c.args.id c.ranges.id in
    let before = c.loop-kept.invariant.2 early t second group was (subst (λ n. IsIdOf ((state g.S.Store old).now.trees t.grps_tree) n group) (sym same) of) in
    fails c.from_residual.result (fell_late t g.S.Store old mid new group c.args.batch.now _ was before (c.in_err-enter.ensures.fell clean before.within.inside))

pub returns-clause-done : goal.returns-clause-done
returns-clause-done g c clean t second group was of =
    let old = c.args.tx.now.conn.now in
    let new = c.loop-kept.tx.conn.now in
    let same : to_z w64 (of_z w64 c.args.id) ≡ c.args.id = to_z-of_z w64 c.args.id c.ranges.id in
    let before = c.loop-kept.invariant.2 clean t second group was (subst (λ n. IsIdOf ((state g.S.Store old).now.trees t.grps_tree) n group) (sym same) of) in
    let none : drop c.loop-kept.kept-index c.args.batch.now ≡ [] = search (rules, drop_of_length-le) in
    subst (AddsOn t g.S.Store old new group c.args.batch.now) none before
