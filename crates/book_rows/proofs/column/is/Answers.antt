use Rattle.book_rows.specs.Columns.{same_text}
use Rattle.book_rows.proofs.column.is.Goals as goal

pub returns : goal.returns
unfolding same_text
returns c = c.eq.ensures
