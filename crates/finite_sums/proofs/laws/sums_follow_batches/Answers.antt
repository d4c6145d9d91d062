use Rattle.finite_sums.proofs.Texts.{sums_follow_batches_lem}
use Rattle.finite_sums.proofs.laws.sums_follow_batches.Goals as goal

pub returns : goal.returns
returns g c = sums_follow_batches_lem _
