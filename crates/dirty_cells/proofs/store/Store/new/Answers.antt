use Rattle.dirty_cells.proofs.Spots.{flattened_empty}
use Rattle.dirty_cells.proofs.store.Store.new.Goals as goal

pub returns : goal.returns
returns c = flattened_empty c.new.result.entries c.new.ensures.empty
