use Rattle.book_laws.proofs.Numbered.{adds_up}
use Rattle.book_laws.proofs.laws.cells_add_up.Goals as goal

pub returns : goal.returns
returns c = adds_up
