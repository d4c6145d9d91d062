use Rattle.command_lines.proofs.WrittenLemmas.{read_back}
use Rattle.command_lines.proofs.laws.commands_read_back.Goals as goal

pub returns : goal.returns
returns c = read_back
