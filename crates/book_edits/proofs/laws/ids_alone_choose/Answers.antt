use Rattle.book_edits.proofs.Amounts.{ids_alone_choose_lem}
use Rattle.book_edits.proofs.laws.ids_alone_choose.Goals as goal

pub returns : goal.returns
returns c = ids_alone_choose_lem
