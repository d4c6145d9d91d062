use Rattle.kept_pairs.proofs.Meaning as lemma
use Rattle.kept_pairs.proofs.laws.imports_find_payees.Goals as goal

pub returns : goal.returns
returns c = lemma.payees_are_found
