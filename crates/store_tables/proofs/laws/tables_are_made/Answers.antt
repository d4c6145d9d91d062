use Rattle.store_tables.proofs.MovingLemmas.{makes_tables, empties_items}
use Rattle.store_tables.proofs.laws.tables_are_made.Goals as goal

pub returns-clause-made : goal.returns-clause-made
returns-clause-made c = makes_tables

pub returns-clause-emptied : goal.returns-clause-emptied
returns-clause-emptied c = empties_items
