use Rattle.budget_top.proofs.Staying.{stay_by}
use Rattle.budget_top.proofs.laws.answers_stay.Goals as goal

pub returns : goal.returns
returns c = stay_by c.answers_tell.ensures
