use Rattle.field_merge.proofs.Latest.{is_latest}
use Rattle.field_merge.proofs.laws.latest_message.Goals as goal

pub returns : goal.returns
returns c = is_latest
