use Rattle.kept_pairs.proofs.Importing as lemma
use Rattle.kept_pairs.proofs.laws.imports_write.Goals as goal

pub returns : goal.returns
returns c = lemma.imports_write
