use Rattle.field_merge.proofs.Joining.{in_any_order}
use Rattle.field_merge.proofs.laws.joined_in_any_order.Goals as goal

pub returns : goal.returns
returns c = in_any_order
