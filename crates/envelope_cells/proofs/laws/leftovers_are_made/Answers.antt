use Rattle.envelope_cells.proofs.Made.{leftovers_are_made_lem}
use Rattle.envelope_cells.proofs.laws.leftovers_are_made.Goals as goal

pub returns : goal.returns
returns c = leftovers_are_made_lem
