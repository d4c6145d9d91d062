use Rattle.std.proofs.Common.{◌≡◌, ◌++◌}
use Rattle.envelope_cells.specs.Places.{with_categories}
use Rattle.envelope_cells.specs.BudgetOf.{groups_of}
use Rattle.envelope_cells.proofs.groups.groups_of.Given as goal

abbrev pub invariant-loop-place : goal.invariant-loop-place
invariant-loop-place l = l.groups.items ++ with_categories l.categories.entries l.place-iterator ≡ groups_of l.book.rows
