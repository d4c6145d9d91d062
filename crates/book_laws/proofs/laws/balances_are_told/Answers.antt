use Rattle.book_laws.proofs.Kept.{balances_told}
use Rattle.book_laws.proofs.laws.balances_are_told.Goals as goal

pub returns : goal.returns
returns c = balances_told
