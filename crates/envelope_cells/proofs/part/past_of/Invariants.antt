use Rattle.envelope_cells.specs.BudgetOf.{budget_of}
use Rattle.envelope_cells.specs.Parts.{IsPast}
use Rattle.envelope_cells.proofs.part.past_of.Given as goal

abbrev pub invariant-loop-at : goal.invariant-loop-at
invariant-loop-at l = IsPast (budget_of l.book.rows) l.id l.at l.past
