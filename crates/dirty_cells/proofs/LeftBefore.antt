-- What was left in the expense categories before a month is small.
use Rattle.std.proofs.Common.{ℕ, zero, suc, ◌≤◌, ◌<◌, ◌^◌, unsigned_abs, refl, ap, arith}
use Rattle.book_rows.specs.declared.rows.Rows.{Rows}
use Rattle.book_rows.specs.Book.{HasSizes}
use Rattle.envelope_cells.specs.Budget.{expense}
use Rattle.envelope_cells.specs.BudgetOf.{budget_of}
use Rattle.envelope_cells.specs.Cells.{total_leftover}
use Rattle.envelope_cells.specs.declared.name.CellKind.TheVariants.{TotalLeftover}
use Rattle.envelope_cells.proofs.Money.{total_zero}
use Rattle.dirty_cells.specs.WholeOf.{left_before}
use Rattle.dirty_cells.proofs.Wholes.{cell_small}

pub left_small_before : (rows : Rows) → HasSizes rows → (n : ℕ) → n < 2760 → unsigned_abs (left_before (budget_of rows) n) ≤ 2 ^ 121
left_small_before rows sizes zero below = omega (arith, ap unsigned_abs (total_zero (expense (budget_of rows))))
left_small_before rows sizes (suc m) below = cell_small rows sizes m (omega (arith, below)) TotalLeftover (total_leftover (budget_of rows) m) refl
