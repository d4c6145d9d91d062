use Rattle.book_laws.proofs.Kept.{lists_told}
use Rattle.book_laws.proofs.laws.transactions_are_listed.Goals as goal

pub returns : goal.returns
returns c = lists_told
