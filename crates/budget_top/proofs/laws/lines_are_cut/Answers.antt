use Rattle.budget_top.proofs.CutLines.{lines_cut}
use Rattle.budget_top.proofs.laws.lines_are_cut.Goals as goal

pub returns : goal.returns
returns c = lines_cut
