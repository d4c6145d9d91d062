use Rattle.dirty_cells.proofs.Rows.{no_months}
use Rattle.dirty_cells.proofs.row.Row.new.Goals as goal

pub returns : goal.returns
returns c = no_months c.new.result.entries c.new-2.result.entries c.new-3.result.entries c.new.ensures.empty c.new-2.ensures.empty c.new-3.ensures.empty
