use Rattle.envelope_cells.proofs.Others.{others_count_nowhere_lem}
use Rattle.envelope_cells.proofs.laws.others_count_nowhere.Goals as goal

pub returns : goal.returns
returns c = others_count_nowhere_lem
