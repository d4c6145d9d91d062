use Rattle.command_lines.proofs.FirstBad.{first_is_told}
use Rattle.command_lines.proofs.laws.first_bad_is_told.Goals as goal

pub returns : goal.returns
returns c = first_is_told
