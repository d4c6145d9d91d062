use Rattle.book_laws.proofs.Merged.{merged}
use Rattle.book_laws.proofs.laws.payees_are_merged.Goals as goal

pub returns : goal.returns
returns c = merged
