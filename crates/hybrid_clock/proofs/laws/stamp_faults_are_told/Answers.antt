use Rattle.hybrid_clock.proofs.TextFaults.{stamp_faults_are_told_lem}
use Rattle.hybrid_clock.proofs.laws.stamp_faults_are_told.Goals as goal

pub returns : goal.returns
returns c = stamp_faults_are_told_lem
