use Rattle.finite_sums.proofs.Texts.{sums_follow_entries_lem}
use Rattle.finite_sums.proofs.laws.sums_follow_entries.Goals as goal

pub returns : goal.returns
returns g c = sums_follow_entries_lem _
