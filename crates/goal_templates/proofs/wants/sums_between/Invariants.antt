use Rattle.std.proofs.Common.{◌≡◌, ◌-◌}
use Rattle.envelope_cells.specs.BudgetOf.{budget_of}
use Rattle.goal_templates.specs.Wanted.{latest_sums}
use Rattle.goal_templates.proofs.wants.sums_between.Given as goal

abbrev pub invariant-loop-at : goal.invariant-loop-at
invariant-loop-at l = l.sum ≡ latest_sums (budget_of l.book.rows) l.id l.at (l.at - l.from)
