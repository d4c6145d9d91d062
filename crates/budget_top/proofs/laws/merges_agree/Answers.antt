use Rattle.budget_top.proofs.Merging.{merges_agree_by}
use Rattle.budget_top.proofs.laws.merges_agree.Goals as goal

pub returns : goal.returns
returns c = merges_agree_by c.latest_message.ensures
