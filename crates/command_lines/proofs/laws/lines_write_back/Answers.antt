use Rattle.command_lines.proofs.RawLemmas.{write_back}
use Rattle.command_lines.proofs.laws.lines_write_back.Goals as goal

pub returns : goal.returns
returns c = write_back
