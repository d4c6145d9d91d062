use Rattle.book_laws.proofs.GoingBack.{go_back}
use Rattle.book_laws.proofs.laws.histories_go_back.Goals as goal

pub returns : goal.returns
returns c = go_back
