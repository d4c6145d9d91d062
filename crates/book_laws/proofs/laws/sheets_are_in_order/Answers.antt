use Rattle.book_laws.proofs.InOrder.{in_order}
use Rattle.book_laws.proofs.laws.sheets_are_in_order.Goals as goal

pub returns : goal.returns
returns c = in_order
