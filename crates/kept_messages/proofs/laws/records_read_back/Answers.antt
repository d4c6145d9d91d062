use Rattle.kept_messages.proofs.WritingBack.{records_back}
use Rattle.kept_messages.proofs.laws.records_read_back.Goals as goal

pub returns : goal.returns
returns c = records_back
