use Rattle.book_laws.proofs.TakenBack.{mappings_back}
use Rattle.book_laws.proofs.laws.mappings_are_taken_back.Goals as goal

pub returns : goal.returns
returns c = mappings_back
