use Rattle.sync_wire.proofs.Causes.{field_fault}
use Rattle.sync_wire.proofs.laws.faults_have_causes.Goals as goal

pub returns : goal.returns
returns c = field_fault
