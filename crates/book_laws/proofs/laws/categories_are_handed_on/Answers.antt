use Rattle.book_laws.proofs.HandedOn.{all_handed_on}
use Rattle.book_laws.proofs.laws.categories_are_handed_on.Goals as goal

pub returns : goal.returns
returns c = all_handed_on
