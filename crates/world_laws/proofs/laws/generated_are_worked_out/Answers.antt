use Rattle.world_laws.proofs.Generated.{worked_out}
use Rattle.world_laws.proofs.laws.generated_are_worked_out.Goals as goal

pub returns : goal.returns
returns c = worked_out c.generated_are_numbered.ensures
