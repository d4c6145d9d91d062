use Rattle.cell_laws.proofs.OnSheets.{sheets_have_months_lem}
use Rattle.cell_laws.proofs.laws.sheets_have_months.Goals as goal

pub returns : goal.returns
returns c = sheets_have_months_lem
