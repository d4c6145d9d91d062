use Rattle.field_merge.proofs.Joining.{again}
use Rattle.field_merge.proofs.laws.joined_again.Goals as goal

pub returns : goal.returns
returns c = again
