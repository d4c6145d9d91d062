use Rattle.device_core.proofs.Undoing.{lines_undone}
use Rattle.device_core.proofs.laws.lines_are_undone.Goals as goal

pub returns : goal.returns
returns c = lines_undone
