use Rattle.book_laws.proofs.Kept.{kept_rows}
use Rattle.book_laws.proofs.laws.kept_rows_are_told.Goals as goal

pub returns : goal.returns
returns c = kept_rows
