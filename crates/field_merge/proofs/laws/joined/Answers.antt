use Rattle.field_merge.proofs.Joining.{is_join}
use Rattle.field_merge.proofs.laws.joined.Goals as goal

pub returns : goal.returns
returns c = is_join
