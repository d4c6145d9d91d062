use Rattle.book_laws.proofs.AskedPairs.{pairs_judged}
use Rattle.book_laws.proofs.laws.pair_edits_are_judged.Goals as goal

pub returns : goal.returns
returns c = pairs_judged
