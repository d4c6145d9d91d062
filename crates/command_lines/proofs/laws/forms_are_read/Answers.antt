use Rattle.command_lines.proofs.RepeatLemmas.{forms_read}
use Rattle.command_lines.proofs.laws.forms_are_read.Goals as goal

pub returns : goal.returns
returns c = forms_read
