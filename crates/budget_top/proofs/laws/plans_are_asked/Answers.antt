use Rattle.budget_top.proofs.Asking.{plans_asked}
use Rattle.budget_top.proofs.laws.plans_are_asked.Goals as goal

pub returns : goal.returns
returns c = plans_asked
