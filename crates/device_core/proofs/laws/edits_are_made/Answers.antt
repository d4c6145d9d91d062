use Rattle.device_core.proofs.Several.{edits_made}
use Rattle.device_core.proofs.laws.edits_are_made.Goals as goal

pub returns : goal.returns
returns c = edits_made
