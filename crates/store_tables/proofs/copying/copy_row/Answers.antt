use Rattle.std.proofs.Common.{rules, arith, ◌≡◌, ap, subst, subst₂, sym, ◌∙◌, w64, to_z, of_z}
use Rattle.std.proofs.lemmas.Int.{to_z-of_z}
use Rattle.sqlite.specs.State.{HasCleanDisk}
use Rattle.sqlite.specs.Held.{state}
use Rattle.sqlite_value.specs.Order.{column, bytes}
use Rattle.store_tables.specs.Within.{IsIdOf}
use Rattle.store_tables.proofs.WithinLemmas.{adds_on, fell_on}
use Rattle.store_tables.proofs.copying.copy_row.Goals as goal

pub returns-in-Ok-clause-copied : goal.returns-in-Ok-clause-copied
returns-in-Ok-clause-copied g c clean t l m item was met =
    let row = c.args.row.now in
    let mid = c.id_of.new.tx.conn.now in
    let new = c.enter.new.tx.conn.now in
    let early : HasCleanDisk (state g.S.Store mid) = omega (arith, c.enter.ensures.survives.clean, clean) in
    let group = c.in_ok-group.ensures.ok.1 ∙ item.group in
    let key = c.in_ok-key.ensures.ok.1 ∙ item.key in
    let body = c.in_ok-body.ensures.ok.1 ∙ item.body in
    let one = c.in_ok-id.ensures.at early t l m (bytes (column row 0)) group was met in
    let id = c.in_ok-id.id in
    let same : to_z w64 (of_z w64 id) ≡ id = to_z-of_z w64 id (search rules) in
    let of = subst (λ n. IsIdOf ((state g.S.Store mid).now.trees t.grps_tree) n (bytes (column row 0))) (sym same) one.1 in
    let two = c.in-Ok.ensures.entered clean t l m (bytes (column row 0)) (bytes (column row 1)) (bytes (column row 2)) key body one.0.within of in
    let groups = c.in-Ok.ensures.groups clean t l m (bytes (column row 0)) (bytes (column row 1)) (bytes (column row 2)) key body one.0.within of in (
      adds_on t g.S.Store c.args.tx.now.conn.now mid new (bytes (column row 0)) (bytes (column row 1)) (bytes (column row 2)) one.0 two,
      λ name named. subst₂ (λ rows n. IsIdOf rows (to_z w64 (of_z w64 id)) n) (sym groups) (ap bytes (sym group ∙ named)) of,
    )

pub returns-in-Err-clause-fell : goal.returns-in-Err-clause-fell
returns-in-Err-clause-fell g c clean t l m item was met =
    let mid = c.id_of.new.tx.conn.now in
    let early : HasCleanDisk (state g.S.Store mid) = omega (arith, c.enter.ensures.survives.clean, clean) in
    let one = c.in_ok-id.ensures.at early t l m (bytes (column c.args.row.now 0)) (c.in_ok-group.ensures.ok.1 ∙ item.group) was met in
    fell_on t g.S.Store c.args.tx.now.conn.now mid c.enter.new.tx.conn.now _ was one.0 (c.in-Err.ensures.fell clean one.0.within.inside)
