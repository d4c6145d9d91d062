use Rattle.tracking_budget.proofs.Saved.{budgets_are_apart_lem}
use Rattle.tracking_budget.proofs.laws.budgets_are_apart.Goals as goal

pub returns : goal.returns
returns c = budgets_are_apart_lem
