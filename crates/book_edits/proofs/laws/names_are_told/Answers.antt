use Rattle.book_edits.proofs.Told.{names_are_told_lem}
use Rattle.book_edits.proofs.laws.names_are_told.Goals as goal

pub returns : goal.returns
returns c = names_are_told_lem
