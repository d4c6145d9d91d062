use Rattle.envelope_cells.proofs.NamesOf.{sheets_are_named_lem}
use Rattle.envelope_cells.proofs.laws.sheets_are_named.Goals as goal

pub returns : goal.returns
returns c = sheets_are_named_lem
