use Rattle.device_core.proofs.Books.{books_follow}
use Rattle.device_core.proofs.laws.books_follow_messages.Goals as goal

pub returns : goal.returns
returns c = books_follow
