use Rattle.generated_books.proofs.Numbers.{generated_numbered}
use Rattle.generated_books.proofs.laws.generated_are_numbered.Goals as goal

pub returns : goal.returns
returns c = generated_numbered
