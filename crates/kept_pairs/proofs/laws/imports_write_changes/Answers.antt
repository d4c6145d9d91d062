use Rattle.kept_pairs.proofs.Changing as lemma
use Rattle.kept_pairs.proofs.laws.imports_write_changes.Goals as goal

pub returns : goal.returns
returns c = lemma.write_changes
