use Rattle.book_laws.proofs.OneStep.{one_step}
use Rattle.book_laws.proofs.laws.one_step_is_taken.Goals as goal

pub returns : goal.returns
returns c = one_step
