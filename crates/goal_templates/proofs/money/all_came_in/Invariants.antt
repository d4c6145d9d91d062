use Rattle.std.proofs.Common.{◌≡◌, ◌+ℤ◌, drop}
use Rattle.finite_sums.specs.Sums.{total}
use Rattle.envelope_cells.specs.BudgetOf.{budget_of}
use Rattle.goal_templates.specs.Money.{came_in}
use Rattle.goal_templates.proofs.money.all_came_in.Given as goal

abbrev pub invariant-loop-id : goal.invariant-loop-id
invariant-loop-id l = l.sum +ℤ total (came_in (budget_of l.book.rows) l.number) (drop l.id-index l.ids) ≡ total (came_in (budget_of l.book.rows) l.number) l.ids
