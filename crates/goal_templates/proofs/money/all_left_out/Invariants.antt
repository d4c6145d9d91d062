use Rattle.std.proofs.Common.{◌≡◌, ◌+ℤ◌, drop}
use Rattle.finite_sums.specs.Sums.{total}
use Rattle.envelope_cells.specs.BudgetOf.{budget_of}
use Rattle.goal_templates.specs.Money.{left_out}
use Rattle.goal_templates.proofs.money.all_left_out.Given as goal

abbrev pub invariant-loop-id : goal.invariant-loop-id
invariant-loop-id l = l.sum +ℤ total (left_out (budget_of l.book.rows) l.number l.asked) (drop l.id-index l.ids) ≡ total (left_out (budget_of l.book.rows) l.number l.asked) l.ids
