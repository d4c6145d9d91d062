use Rattle.book_laws.proofs.NoMore.{nothing_more}
use Rattle.book_laws.proofs.laws.plain_edits_do_no_more.Goals as goal

pub returns : goal.returns
returns c = nothing_more
