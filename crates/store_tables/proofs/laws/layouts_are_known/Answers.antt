use Rattle.store_tables.proofs.KnownTables.{known}
use Rattle.store_tables.proofs.laws.layouts_are_known.Goals as goal

pub returns : goal.returns
returns c = known
