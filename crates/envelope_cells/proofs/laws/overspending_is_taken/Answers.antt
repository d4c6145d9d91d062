use Rattle.envelope_cells.proofs.Made.{overspending_is_taken_lem}
use Rattle.envelope_cells.proofs.laws.overspending_is_taken.Goals as goal

pub returns : goal.returns
returns c = overspending_is_taken_lem
