use Rattle.budget_top.proofs.Replying.{replies_cut}
use Rattle.budget_top.proofs.laws.replies_are_cut.Goals as goal

pub returns : goal.returns
returns c = replies_cut c.replies_are_lines.ensures c.accepted_are_joined.ensures c.states_stay_valid.ensures
