use Rattle.book_laws.proofs.ColumnsTold.{columns_are_told_lem}
use Rattle.book_laws.proofs.laws.columns_are_told.Goals as goal

pub returns : goal.returns
returns c = columns_are_told_lem
