use Rattle.std.proofs.Common.{◌<◌, arith, ◌∙◌, OnOk, Result, Ok, Err}
use Rattle.envelope_cells.specs.BudgetOf.{budget_of}
use Rattle.dirty_cells.proofs.Settling.{month_stays}
use Rattle.dirty_cells.proofs.month.refresh_month.Goals as goal

on_ok : {A E : Type 0} {P Q : Type 0} (r : Result A E) → (P → Q) → OnOk r P → OnOk r Q
on_ok (Ok x) f p = f p
on_ok (Err e) f p = p

pub refresh_groups-requires-clause-right : goal.refresh_groups-requires-clause-right
refresh_groups-requires-clause-right g c = c.in_ok-refresh_categories.ensures.right c.args.marked.now c.requires.right

pub refresh_whole-requires-clause-prior : goal.refresh_whole-requires-clause-prior
refresh_whole-requires-clause-prior g c = λ l.
    let b = budget_of c.args.book.now.rows in
    let some : 0 < c.args.number = omega (arith, l) in
    month_stays c.refresh_categories.new.cells c.refresh_groups.new.cells b c.args.number some c.in_ok-refresh_groups.ensures.others
    (month_stays c.args.cells.now c.refresh_categories.new.cells b c.args.number some c.in_ok-refresh_categories.ensures.others (c.requires.prior l))

pub returns-clause-others : goal.returns-clause-others
returns-clause-others g c = on_ok c.refresh_whole.result (λ last q apart. last q apart ∙ c.in_ok-refresh_groups.ensures.others q apart ∙ c.in_ok-refresh_categories.ensures.others q apart) c.refresh_whole.ensures.others
