use Rattle.book_laws.proofs.Done.{changes_done}
use Rattle.book_laws.proofs.laws.changes_do.Goals as goal

pub returns : goal.returns
returns c = changes_done
