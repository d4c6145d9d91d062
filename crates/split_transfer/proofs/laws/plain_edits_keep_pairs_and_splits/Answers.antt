use Rattle.split_transfer.proofs.Keeping as lemma
use Rattle.split_transfer.proofs.laws.plain_edits_keep_pairs_and_splits.Goals as goal

pub returns : goal.returns
returns c = lemma.keep_right
