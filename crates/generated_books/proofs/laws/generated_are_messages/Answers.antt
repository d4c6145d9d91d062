use Rattle.generated_books.proofs.Numbers.{count_is}
use Rattle.generated_books.proofs.Rising.{generated_rise}
use Rattle.generated_books.proofs.Valid.{generated_valid}
use Rattle.generated_books.proofs.laws.generated_are_messages.Goals as goal

pub returns : goal.returns
returns c = λ n. record { count = count_is n; rising = generated_rise n; valid = generated_valid n }
