use Rattle.kept_pairs.proofs.Judging as lemma
use Rattle.kept_pairs.proofs.laws.imports_are_judged.Goals as goal

pub returns : goal.returns
returns c = lemma.imports_are_judged
