use Rattle.device_core.proofs.ReadBack.{read_back}
use Rattle.device_core.proofs.laws.edits_read_back.Goals as goal

pub returns : goal.returns
returns c = read_back
