use Rattle.book_laws.proofs.Gained.{gains_told}
use Rattle.book_laws.proofs.laws.gains_are_told.Goals as goal

pub returns : goal.returns
returns c = gains_told
