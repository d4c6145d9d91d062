use Rattle.kept_messages.proofs.Starting.{records_read}
use Rattle.kept_messages.proofs.laws.records_are_read.Goals as goal

pub returns : goal.returns
returns c = records_read
