use Rattle.cell_laws.proofs.Least.{ranges_are_least_lem}
use Rattle.cell_laws.proofs.laws.ranges_are_least.Goals as goal

pub returns : goal.returns
returns c = ranges_are_least_lem
