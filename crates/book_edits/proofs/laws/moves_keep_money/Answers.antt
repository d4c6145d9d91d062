use Rattle.book_edits.proofs.Amounts.{moves_keep_money_lem}
use Rattle.book_edits.proofs.laws.moves_keep_money.Goals as goal

pub returns : goal.returns
returns c = moves_keep_money_lem
