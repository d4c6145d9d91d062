use Rattle.std.proofs.Common.{◌≡◌, ◌++◌, drop, map}
use Rattle.envelope_cells.specs.BudgetOf.{budget_of}
use Rattle.envelope_cells.specs.Parts.{part_of}
use Rattle.envelope_cells.proofs.part.parts_of.Given as goal

abbrev pub invariant-loop-id : goal.invariant-loop-id
invariant-loop-id l = l.parts.items ++ map (part_of (budget_of l.book.rows) l.number) (drop l.id-index l.ids) ≡ map (part_of (budget_of l.book.rows) l.number) l.ids
