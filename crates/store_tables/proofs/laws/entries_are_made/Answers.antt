use Rattle.store_tables.proofs.EntryLemmas.{makes_entries}
use Rattle.store_tables.proofs.laws.entries_are_made.Goals as goal

pub returns : goal.returns
returns c = makes_entries
