use Rattle.budget_laws.proofs.Wanting.{wants_told}
use Rattle.budget_laws.proofs.laws.wants_are_told.Goals as goal

pub returns : goal.returns
returns c = wants_told
