use Rattle.envelope_cells.proofs.Small.{cells_are_small_lem}
use Rattle.envelope_cells.proofs.laws.cells_are_small.Goals as goal

pub returns : goal.returns
returns c = cells_are_small_lem
