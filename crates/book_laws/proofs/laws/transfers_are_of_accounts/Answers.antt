use Rattle.book_laws.proofs.Standing.{of_accounts}
use Rattle.book_laws.proofs.laws.transfers_are_of_accounts.Goals as goal

pub returns : goal.returns
returns c = of_accounts
