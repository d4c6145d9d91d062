use Rattle.kept_messages.proofs.Groups.{groups_read}
use Rattle.kept_messages.proofs.laws.groups_are_read.Goals as goal

pub returns : goal.returns
returns c = groups_read
