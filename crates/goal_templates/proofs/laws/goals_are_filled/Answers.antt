use Rattle.goal_templates.proofs.Filled.{goals_are_filled_lem}
use Rattle.goal_templates.proofs.laws.goals_are_filled.Goals as goal

pub returns : goal.returns
returns c = goals_are_filled_lem
