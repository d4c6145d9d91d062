use Rattle.kept_pairs.proofs.ByRules as lemma
use Rattle.kept_pairs.proofs.laws.rules_keep_pairs_and_splits.Goals as goal

pub returns : goal.returns
returns c = lemma.rules_keep
