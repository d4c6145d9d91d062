use Rattle.world_laws.proofs.Equal.{equal_told}
use Rattle.world_laws.proofs.laws.equal_is_told.Goals as goal

pub returns : goal.returns
returns c = λ w one other. equal_told c.same_lines_are_same_messages.ensures w one other
