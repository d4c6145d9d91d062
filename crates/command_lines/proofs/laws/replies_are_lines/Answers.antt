use Rattle.command_lines.proofs.ReplyLemmas.{are_lines}
use Rattle.command_lines.proofs.laws.replies_are_lines.Goals as goal

pub returns : goal.returns
returns c = are_lines c.message_lines.ensures.one_line
