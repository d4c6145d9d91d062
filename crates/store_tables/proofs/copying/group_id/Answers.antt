use Rattle.std.proofs.Common.{arith, subst, sym}
use Rattle.sqlite.specs.State.{HasCleanDisk}
use Rattle.sqlite.specs.Held.{state}
use Rattle.store_tables.specs.Within.{ShowsGroups}
use Rattle.store_tables.proofs.WithinLemmas.{goes_on, if_ok, fails, fell_on, fell_there}
use Rattle.store_tables.proofs.copying.group_id.Goals as goal

pub returns-then-is_empty-clause-at : goal.returns-then-is_empty-clause-at
returns-then-is_empty-clause-at g c clean t l m group is was =
    let early : HasCleanDisk (state g.S.Store c.find.new.tx.conn.now) = omega (arith, c.make.ensures.survives.clean) in
    let one = c.in_ok-rows.ensures.found early t l m group is was in
    let two = c.in_ok-rows-2.ensures.made clean t l m group is one.0.within in
    let groups = (state g.S.Store c.make.new.tx.conn.now).now.trees t.grps_tree in
    if_ok c.first_id.result (λ id of. (
      goes_on t g.S.Store c.args.tx.now.conn.now c.find.new.tx.conn.now c.make.new.tx.conn.now one.0 two.0,
      of groups group (subst (λ rows. ShowsGroups groups group rows) (sym c.deref.ensures.value) two.1),
    )) c.first_id.ensures

pub returns-clause-at : goal.returns-clause-at
returns-clause-at g c clean t l m group is was =
    let one = c.in_ok-rows.ensures.found clean t l m group is was in
    let groups = (state g.S.Store c.find.new.tx.conn.now).now.trees t.grps_tree in
    if_ok c.first_id-2.result (λ id of. (one.0, of groups group (subst (λ rows. ShowsGroups groups group rows) (sym c.deref-2.ensures.value) one.1))) c.first_id-2.ensures

pub returns-in_err-rows-2-clause-fell : goal.returns-in_err-rows-2-clause-fell
returns-in_err-rows-2-clause-fell g c clean t l m group is was =
    let early : HasCleanDisk (state g.S.Store c.find.new.tx.conn.now) = omega (arith, c.make.ensures.survives.clean) in
    let one = c.in_ok-rows.ensures.found early t l m group is was in
    fails c.from_residual-in_err-rows-2.result (fell_on t g.S.Store c.args.tx.now.conn.now c.find.new.tx.conn.now c.make.new.tx.conn.now _ was one.0 (c.in_err-rows-2.ensures.fell clean))

pub returns-then-is_empty-clause-fell : goal.returns-then-is_empty-clause-fell
returns-then-is_empty-clause-fell g c clean t l m group is was =
    let early : HasCleanDisk (state g.S.Store c.find.new.tx.conn.now) = omega (arith, c.make.ensures.survives.clean) in
    let one = c.in_ok-rows.ensures.found early t l m group is was in
    let two = c.in_ok-rows-2.ensures.made clean t l m group is one.0.within in
    fails c.first_id.result (fell_there t g.S.Store c.args.tx.now.conn.now c.make.new.tx.conn.now _ was (goes_on t g.S.Store c.args.tx.now.conn.now c.find.new.tx.conn.now c.make.new.tx.conn.now one.0 two.0))

pub returns-clause-fell : goal.returns-clause-fell
returns-clause-fell g c clean t l m group is was =
    let one = c.in_ok-rows.ensures.found clean t l m group is was in
    fails c.first_id-2.result (fell_there t g.S.Store c.args.tx.now.conn.now c.find.new.tx.conn.now _ was one.0)
