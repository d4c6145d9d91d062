use Rattle.book_laws.proofs.Numbered.{sums_told}
use Rattle.book_laws.proofs.laws.sums_are_of_transactions.Goals as goal

pub returns : goal.returns
returns c = sums_told
