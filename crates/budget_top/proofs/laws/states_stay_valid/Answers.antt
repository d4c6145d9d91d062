use Rattle.budget_top.proofs.Valid.{stay_valid}
use Rattle.budget_top.proofs.laws.states_stay_valid.Goals as goal

pub returns : goal.returns
returns c = stay_valid c.lines_write_back.ensures c.talks_are_valid.ensures
