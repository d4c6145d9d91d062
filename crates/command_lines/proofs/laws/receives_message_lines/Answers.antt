use Rattle.command_lines.proofs.ReceivedLines.{receives_lines}
use Rattle.command_lines.proofs.laws.receives_message_lines.Goals as goal

pub returns : goal.returns
returns c = receives_lines
