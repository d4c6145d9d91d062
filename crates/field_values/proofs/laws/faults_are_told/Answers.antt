use Rattle.field_values.proofs.FaultLemmas.{faults_are_told_lem}
use Rattle.field_values.proofs.laws.faults_are_told.Goals as goal

pub returns : goal.returns
returns c = faults_are_told_lem
