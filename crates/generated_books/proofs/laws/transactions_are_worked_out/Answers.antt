use Rattle.generated_books.proofs.WorkedOut.{worked_out}
use Rattle.generated_books.proofs.laws.transactions_are_worked_out.Goals as goal

pub returns : goal.returns
returns c = worked_out
