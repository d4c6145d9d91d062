use Rattle.std.proofs.Common.{◌≡◌, ◌+◌, ◌-◌, ◌*◌, ◌≤◌, length, true}
use Rattle.std.specs.FinMap.{get}
use Rattle.envelope_cells.specs.BudgetOf.{budget_of}
use Rattle.envelope_cells.specs.declared.name.CellName.{CellName}
use Rattle.dirty_cells.specs.Grid.{is_pending}
use Rattle.dirty_cells.specs.Right.{AreRightIn, IsOutside, none_pending}
use Rattle.dirty_cells.specs.Steps.{month_cost}
use Rattle.dirty_cells.proofs.month.refresh_some_months.Given as goal

abbrev pub invariant-loop-number : goal.invariant-loop-number
invariant-loop-number g l = record {
  done : AreRightIn l.cells (budget_of l.book.rows) l.first l.number none_pending;
  rest : AreRightIn l.cells (budget_of l.book.rows) l.number l.to (is_pending l.categories l.marked true);
  others : (q : CellName) → IsOutside l.from l.to q → get l.cells q ≡ get l.fn.cells q;
  cost : l.steps ≤ l.fn.steps + month_cost (length l.categories) (length l.marked) * (l.number - l.from);
}
