use Rattle.book_laws.proofs.Numbered.{numbered}
use Rattle.book_laws.proofs.laws.months_are_numbered.Goals as goal

pub returns : goal.returns
returns c = numbered
