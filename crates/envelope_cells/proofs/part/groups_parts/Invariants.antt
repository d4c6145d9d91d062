use Rattle.std.proofs.Common.{◌≡◌, ◌++◌, drop, map}
use Rattle.envelope_cells.specs.BudgetOf.{budget_of}
use Rattle.envelope_cells.specs.Parts.{group_of}
use Rattle.envelope_cells.proofs.part.groups_parts.Given as goal

abbrev pub invariant-loop-group : goal.invariant-loop-group
invariant-loop-group l = l.all.items ++ map (group_of (budget_of l.book.rows) l.number) (drop l.group-index l.groups) ≡ map (group_of (budget_of l.book.rows) l.number) l.groups
