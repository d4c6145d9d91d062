use Rattle.std.proofs.Common.{◌-◌, length, true, arith, OnOk, Result, Ok, Err}
use Rattle.std.specs.FinMap.{entries}
use Rattle.envelope_cells.specs.BudgetOf.{budget_of}
use Rattle.dirty_cells.specs.Grid.{is_pending}
use Rattle.dirty_cells.specs.Right.{none_pending}
use Rattle.dirty_cells.specs.Steps.{month_cost}
use Rattle.dirty_cells.proofs.Renewed.{no_months, joined_months, stay_before, stay_behind, empty_front, empty_back, all_within, same_low, costs}
use Rattle.dirty_cells.proofs.grid.renew.Goals as goal

on_ok : {A E : Type 0} {P Q : Type 0} (r : Result A E) → (P → Q) → OnOk r P → OnOk r Q
on_ok (Ok x) f p = f p
on_ok (Err e) f p = p

pub cover_months-requires-clause-prior : goal.cover_months-requires-clause-prior
cover_months-requires-clause-prior g c = no_months c.args.cells.now (budget_of c.args.book.now.rows) c.args.new.0 none_pending

pub cover_months-requires-clause-empty : goal.cover_months-requires-clause-empty
cover_months-requires-clause-empty g c = empty_front c.args.cells.now c.args.cells.now c.args.cells.now c.args.cells.now (budget_of c.args.book.now.rows) c.args.new.0 c.args.old.0 c.args.low c.args.old.1 c.args.new.1 c.requires.front c.requires.low c.requires.high c.requires.back c.requires.within

pub refresh_months-requires-clause-prior : goal.refresh_months-requires-clause-prior
refresh_months-requires-clause-prior g c =
    let b = budget_of c.args.book.now.rows in
    joined_months c.cover_months.new.cells b c.args.new.0 c.args.old.0 c.args.low none_pending c.in_ok-cover_months.ensures.right
    (stay_behind c.args.cells.now c.cover_months.new.cells b none_pending c.args.new.0 c.args.old.0 c.in_ok-cover_months.ensures.others c.args.old.0 c.args.low (omega arith) c.requires.before)

pub refresh_months-requires-clause-right : goal.refresh_months-requires-clause-right
refresh_months-requires-clause-right g c =
    stay_behind c.args.cells.now c.cover_months.new.cells (budget_of c.args.book.now.rows) (is_pending c.args.categories.now c.args.marked.now true) c.args.new.0 c.args.old.0 c.in_ok-cover_months.ensures.others c.args.low c.args.old.1 c.requires.low c.requires.after

pub cover_months-requires-2-clause-prior : goal.cover_months-requires-2-clause-prior
cover_months-requires-2-clause-prior g c =
    let b = budget_of c.args.book.now.rows in
    let c1 = c.cover_months.new.cells in
    let c2 = c.refresh_months.new.cells in
    let front = joined_months c1 b c.args.new.0 c.args.old.0 c.args.low none_pending c.in_ok-cover_months.ensures.right
    (stay_behind c.args.cells.now c1 b none_pending c.args.new.0 c.args.old.0 c.in_ok-cover_months.ensures.others c.args.old.0 c.args.low (omega arith) c.requires.before) in
    joined_months c2 b c.args.new.0 c.args.low c.args.old.1 none_pending
    (stay_before c1 c2 b none_pending c.args.low c.args.old.1 c.in_ok-refresh_months.ensures.others c.args.new.0 c.args.low (omega arith) front)
    c.in_ok-refresh_months.ensures.right

pub cover_months-requires-2-clause-empty : goal.cover_months-requires-2-clause-empty
cover_months-requires-2-clause-empty g c = empty_back c.args.cells.now c.cover_months.new.cells c.refresh_months.new.cells c.refresh_months.new.cells (budget_of c.args.book.now.rows) c.args.new.0 c.args.old.0 c.args.low c.args.old.1 c.args.new.1 c.requires.front c.requires.low c.requires.high c.requires.back c.requires.within c.in_ok-cover_months.ensures.others c.in_ok-refresh_months.ensures.others

pub returns-clause-right : goal.returns-clause-right
returns-clause-right g c =
    let b = budget_of c.args.book.now.rows in
    let c1 = c.cover_months.new.cells in
    let c2 = c.refresh_months.new.cells in
    let c3 = c.cover_months-2.new.cells in
    let front = joined_months c1 b c.args.new.0 c.args.old.0 c.args.low none_pending c.in_ok-cover_months.ensures.right
    (stay_behind c.args.cells.now c1 b none_pending c.args.new.0 c.args.old.0 c.in_ok-cover_months.ensures.others c.args.old.0 c.args.low (omega arith) c.requires.before) in
    let both = joined_months c2 b c.args.new.0 c.args.low c.args.old.1 none_pending
    (stay_before c1 c2 b none_pending c.args.low c.args.old.1 c.in_ok-refresh_months.ensures.others c.args.new.0 c.args.low (omega arith) front)
    c.in_ok-refresh_months.ensures.right in
    two_ok c.cover_months-2.result (λ right others. joined_months c3 b c.args.new.0 c.args.old.1 c.args.new.1 none_pending
    (stay_before c2 c3 b none_pending c.args.old.1 c.args.new.1 others c.args.new.0 c.args.old.1 (omega arith) both) right) c.cover_months-2.ensures.right c.cover_months-2.ensures.others
  where
    two_ok : {A E : Type 0} {P Q R : Type 0} (r : Result A E) → (P → Q → R) → OnOk r P → OnOk r Q → OnOk r R
    two_ok (Ok x) f p q = f p q
    two_ok (Err e) f p q = p

pub returns-clause-within : goal.returns-clause-within
returns-clause-within g c = on_ok c.cover_months-2.result
    (all_within c.args.cells.now c.cover_months.new.cells c.refresh_months.new.cells c.cover_months-2.new.cells (budget_of c.args.book.now.rows) c.args.new.0 c.args.old.0 c.args.low c.args.old.1 c.args.new.1 c.requires.front c.requires.low c.requires.high c.requires.back c.requires.within c.in_ok-cover_months.ensures.others c.in_ok-refresh_months.ensures.others) c.cover_months-2.ensures.others

pub returns-clause-same : goal.returns-clause-same
returns-clause-same g c = on_ok c.cover_months-2.result
    (same_low c.args.cells.now c.cover_months.new.cells c.refresh_months.new.cells c.cover_months-2.new.cells (budget_of c.args.book.now.rows) c.args.new.0 c.args.old.0 c.args.low c.args.old.1 c.args.new.1 c.requires.front c.requires.low c.requires.high c.requires.back c.in_ok-cover_months.ensures.others c.in_ok-refresh_months.ensures.others) c.cover_months-2.ensures.others

pub returns-clause-cost : goal.returns-clause-cost
returns-clause-cost g c = on_ok c.cover_months-2.result
    (costs c.args.steps.now c.cover_months.new.steps c.refresh_months.new.steps c.cover_months-2.new.steps
    (month_cost (length (entries c.args.book.now.rows.categories)) (length (entries c.args.book.now.rows.groups))) (month_cost (length c.args.categories.now) (length c.args.marked.now))
    (c.args.old.0 - c.args.new.0) (c.args.old.1 - c.args.low) (c.args.new.1 - c.args.old.1) c.in_ok-cover_months.ensures.cost c.in_ok-refresh_months.ensures.cost) c.cover_months-2.ensures.cost
