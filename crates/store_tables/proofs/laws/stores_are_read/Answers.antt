use Rattle.store_tables.proofs.StoredLemmas.{is_read}
use Rattle.store_tables.proofs.laws.stores_are_read.Goals as goal

pub returns : goal.returns
returns c = is_read
