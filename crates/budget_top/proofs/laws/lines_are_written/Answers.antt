use Rattle.budget_top.proofs.LineWriting.{as_written}
use Rattle.budget_top.proofs.laws.lines_are_written.Goals as goal

pub returns : goal.returns
returns c = as_written
