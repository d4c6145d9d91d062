use Rattle.book_laws.proofs.Undone.{rows_undone}
use Rattle.book_laws.proofs.laws.rows_are_undone.Goals as goal

pub returns : goal.returns
returns c = rows_undone
