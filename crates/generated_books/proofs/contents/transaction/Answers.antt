use Rattle.generated_books.proofs.Valid.{acct_named, date_named, amount_named}
use Rattle.generated_books.proofs.contents.transaction.Goals as goal

pub text_in-requires : goal.text_in-requires
text_in-requires c = acct_named

pub number_in-requires : goal.number_in-requires
number_in-requires c = date_named

pub number_in-requires-in-2 : goal.number_in-requires-in-2
number_in-requires-in-2 c = amount_named
