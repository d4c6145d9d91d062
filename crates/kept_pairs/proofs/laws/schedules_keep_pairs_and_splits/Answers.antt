use Rattle.kept_pairs.proofs.BySchedules as lemma
use Rattle.kept_pairs.proofs.laws.schedules_keep_pairs_and_splits.Goals as goal

pub returns : goal.returns
returns c = lemma.schedules_keep
