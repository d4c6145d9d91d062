use Rattle.book_laws.proofs.Wrong.{broken_told}
use Rattle.book_laws.proofs.laws.wrong_ones_are_told.Goals as goal

pub returns : goal.returns
returns c = broken_told
