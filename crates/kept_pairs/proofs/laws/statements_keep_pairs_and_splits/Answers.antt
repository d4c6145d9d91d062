use Rattle.kept_pairs.proofs.ByStatements as lemma
use Rattle.kept_pairs.proofs.laws.statements_keep_pairs_and_splits.Goals as goal

pub returns : goal.returns
returns c = lemma.statements_keep
