use Rattle.tracking_budget.proofs.Sheets.{track_sheets_tell_cells_lem}
use Rattle.tracking_budget.proofs.laws.track_sheets_tell_cells.Goals as goal

pub returns : goal.returns
returns c = track_sheets_tell_cells_lem
