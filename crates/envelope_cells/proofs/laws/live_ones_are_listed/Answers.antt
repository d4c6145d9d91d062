use Rattle.envelope_cells.proofs.Listed.{live_ones_are_listed_lem}
use Rattle.envelope_cells.proofs.laws.live_ones_are_listed.Goals as goal

pub returns : goal.returns
returns c = live_ones_are_listed_lem
