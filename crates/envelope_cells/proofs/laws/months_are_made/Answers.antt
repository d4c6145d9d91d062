use Rattle.envelope_cells.proofs.Made.{months_are_made_lem}
use Rattle.envelope_cells.proofs.laws.months_are_made.Goals as goal

pub returns : goal.returns
returns c = months_are_made_lem
