use Rattle.book_laws.proofs.Moved.{moved}
use Rattle.book_laws.proofs.laws.transfers_move.Goals as goal

pub returns : goal.returns
returns c = moved
