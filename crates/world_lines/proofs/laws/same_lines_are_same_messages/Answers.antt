use Rattle.world_lines.proofs.Sets.{same_lines}
use Rattle.world_lines.proofs.laws.same_lines_are_same_messages.Goals as goal

pub returns : goal.returns
returns c = same_lines c.message_lines.ensures.reads_back
