use Rattle.std.proofs.Common.{unsigned_abs, refl, ap, sym, ◌∙◌, subst, rules, arith, to_z, of_z}
use mir.Val.{SFits}
use mir.Syntax.{w64}
use Rattle.std.proofs.lemmas.Int.{ints, to_z-of_z}
use Rattle.envelope_cells.specs.BudgetOf.{budget_of}
use Rattle.envelope_cells.specs.Cells.{total_income, total_spent, total_budgeted, total_leftover, from_last_month}
use Rattle.envelope_cells.specs.declared.name.CellKind.TheVariants.{TotalIncome, TotalSpent, TotalBudgeted, TotalLeftover, FromLastMonth}
use Rattle.dirty_cells.specs.WholeOf.{IsWhole}
use Rattle.dirty_cells.proofs.Wholes.{cell_small, whole_is}
use Rattle.dirty_cells.proofs.LeftBefore.{left_small_before}
use Rattle.dirty_cells.proofs.whole.whole_of.Goals as goal

pub whole_by-requires-clause-income : goal.whole_by-requires-clause-income
whole_by-requires-clause-income c =
    let rows = c.args.book.now.rows in
    let b = budget_of rows in
    let n = c.args.number in
    omega (arith, ints, c.in_ok-totals.ensures.income, ap unsigned_abs c.in_ok-totals.ensures.income, cell_small rows c.sizes.ensures n c.requires.number TotalIncome (total_income b n) refl)

pub whole_by-requires-clause-spent : goal.whole_by-requires-clause-spent
whole_by-requires-clause-spent c =
    let rows = c.args.book.now.rows in
    let b = budget_of rows in
    let n = c.args.number in
    omega (arith, ints, c.in_ok-totals.ensures.spent, ap unsigned_abs c.in_ok-totals.ensures.spent, cell_small rows c.sizes.ensures n c.requires.number TotalSpent (total_spent b n) refl)

pub whole_by-requires-clause-budgets : goal.whole_by-requires-clause-budgets
whole_by-requires-clause-budgets c =
    let rows = c.args.book.now.rows in
    let b = budget_of rows in
    let n = c.args.number in
    omega (arith, ints, c.in_ok-totals.ensures.budgets, ap unsigned_abs c.in_ok-totals.ensures.budgets, cell_small rows c.sizes.ensures n c.requires.number TotalBudgeted (total_budgeted b n) refl)

pub whole_by-requires-clause-leftover : goal.whole_by-requires-clause-leftover
whole_by-requires-clause-leftover c =
    let rows = c.args.book.now.rows in
    let b = budget_of rows in
    let n = c.args.number in
    omega (arith, ints, c.in_ok-totals.ensures.leftover, ap unsigned_abs c.in_ok-totals.ensures.leftover, cell_small rows c.sizes.ensures n c.requires.number TotalLeftover (total_leftover b n) refl)

pub whole_by-requires-clause-from_last : goal.whole_by-requires-clause-from_last
whole_by-requires-clause-from_last c =
    let rows = c.args.book.now.rows in
    let b = budget_of rows in
    let n = c.args.number in
    omega (arith, ints, c.begin_of-begin.ensures.from_last, ap unsigned_abs c.begin_of-begin.ensures.from_last, cell_small rows c.sizes.ensures n c.requires.number FromLastMonth (from_last_month b n) refl)

pub whole_by-requires-clause-left : goal.whole_by-requires-clause-left
whole_by-requires-clause-left c = omega (arith, ap unsigned_abs c.begin_of-begin.ensures.left, left_small_before c.args.book.now.rows c.sizes.ensures c.args.number c.requires.number)

pub returns : goal.returns
returns c =
    let b = budget_of c.args.book.now.rows in
    let n = c.args.number in
    let fits : SFits w64 c.in_ok-held.held = search rules in
    subst (IsWhole b n) (sym c.whole_by.ensures)
    (whole_is b n c.in_ok-totals.totals c.begin_of-begin.result (to_z w64 (of_z w64 c.in_ok-held.held)) c.in_ok-totals.ensures c.begin_of-begin.ensures (to_z-of_z w64 c.in_ok-held.held fits ∙ c.in_ok-held.ensures))
