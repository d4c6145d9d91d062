use Rattle.split_transfer.proofs.Promise as lemma
use Rattle.split_transfer.proofs.laws.pairs_and_splits_stay_right.Goals as goal

pub returns : goal.returns
returns c = lemma.stay_right
