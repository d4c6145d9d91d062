use Rattle.field_merge.proofs.LineFaults.{line_faults_are_told_lem}
use Rattle.field_merge.proofs.laws.line_faults_are_told.Goals as goal

pub returns : goal.returns
returns c = line_faults_are_told_lem
