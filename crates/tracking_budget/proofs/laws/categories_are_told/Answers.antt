use Rattle.tracking_budget.proofs.Telling.{categories_are_told_lem}
use Rattle.tracking_budget.proofs.laws.categories_are_told.Goals as goal

pub returns : goal.returns
returns c = λ rows month q valid. categories_are_told_lem rows month q valid
