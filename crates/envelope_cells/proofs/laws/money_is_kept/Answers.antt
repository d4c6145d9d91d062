use Rattle.envelope_cells.proofs.Money.{money_is_kept_lem}
use Rattle.envelope_cells.proofs.laws.money_is_kept.Goals as goal

pub returns : goal.returns
returns c = money_is_kept_lem
