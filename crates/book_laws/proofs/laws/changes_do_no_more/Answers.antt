use Rattle.book_laws.proofs.Unchanged.{no_more}
use Rattle.book_laws.proofs.laws.changes_do_no_more.Goals as goal

pub returns : goal.returns
returns c = no_more
