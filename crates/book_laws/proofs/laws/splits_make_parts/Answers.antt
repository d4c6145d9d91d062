use Rattle.book_laws.proofs.Split.{splits_make}
use Rattle.book_laws.proofs.laws.splits_make_parts.Goals as goal

pub returns : goal.returns
returns c = splits_make
