use Rattle.book_laws.proofs.Asked.{judged}
use Rattle.book_laws.proofs.laws.plain_edits_are_judged.Goals as goal

pub returns : goal.returns
returns c = judged
