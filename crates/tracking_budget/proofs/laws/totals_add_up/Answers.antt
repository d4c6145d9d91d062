use Rattle.tracking_budget.proofs.Adding.{totals_add_up_lem}
use Rattle.tracking_budget.proofs.laws.totals_add_up.Goals as goal

pub returns : goal.returns
returns c = totals_add_up_lem
