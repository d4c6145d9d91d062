use Rattle.envelope_cells.proofs.Sheets.{sheets_tell_cells_lem}
use Rattle.envelope_cells.proofs.laws.sheets_tell_cells.Goals as goal

pub returns : goal.returns
returns c = sheets_tell_cells_lem
