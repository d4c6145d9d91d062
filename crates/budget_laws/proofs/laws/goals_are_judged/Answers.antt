use Rattle.budget_laws.proofs.Judging.{goals_judged}
use Rattle.budget_laws.proofs.laws.goals_are_judged.Goals as goal

pub returns : goal.returns
returns c = goals_judged
