use Rattle.field_merge.proofs.Joining.{in_turn}
use Rattle.field_merge.proofs.laws.joined_in_turn.Goals as goal

pub returns : goal.returns
returns c = in_turn
