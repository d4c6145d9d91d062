use Rattle.kept_messages.proofs.KeptSets.{batches_kept}
use Rattle.kept_messages.proofs.laws.batches_are_kept.Goals as goal

pub returns : goal.returns
returns c = batches_kept
