use Rattle.book_laws.proofs.Done.{plain_done}
use Rattle.book_laws.proofs.laws.plain_edits_do.Goals as goal

pub returns : goal.returns
returns c = plain_done
