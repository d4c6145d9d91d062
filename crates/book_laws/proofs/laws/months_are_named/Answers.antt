use Rattle.book_laws.proofs.MonthIds.{months_named}
use Rattle.book_laws.proofs.laws.months_are_named.Goals as goal

pub returns : goal.returns
returns c = months_named
