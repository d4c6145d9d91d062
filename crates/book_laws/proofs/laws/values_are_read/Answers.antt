use Rattle.book_laws.proofs.Reading.{values_read}
use Rattle.book_laws.proofs.laws.values_are_read.Goals as goal

pub returns : goal.returns
returns c = values_read
