use Rattle.tracking_budget.proofs.Ordered.{track_sheets_are_in_order_lem}
use Rattle.tracking_budget.proofs.laws.track_sheets_are_in_order.Goals as goal

pub returns : goal.returns
returns c = track_sheets_are_in_order_lem
