use Rattle.store_tables.proofs.NamedTables.{first_is, first_named, made_is, made_named, moved_is, moved_named}
use Rattle.store_tables.proofs.laws.texts_have_their_table.Goals as goal

pub returns-clause-first : goal.returns-clause-first
returns-clause-first c = (first_is, first_named)

pub returns-clause-made : goal.returns-clause-made
returns-clause-made c = (made_is, made_named)

pub returns-clause-moved : goal.returns-clause-moved
returns-clause-moved c = (moved_is, moved_named)
