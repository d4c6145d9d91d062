use Rattle.budget_laws.proofs.Giving.{shares_in_turn}
use Rattle.budget_laws.proofs.laws.shares_are_in_turn.Goals as goal

pub returns : goal.returns
returns c = shares_in_turn
