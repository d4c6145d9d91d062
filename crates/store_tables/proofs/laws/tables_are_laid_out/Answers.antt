use Rattle.store_tables.proofs.LayoutLemmas.{made_layout, moved_layout}
use Rattle.store_tables.proofs.laws.tables_are_laid_out.Goals as goal

pub returns-clause-made : goal.returns-clause-made
returns-clause-made c = made_layout

pub returns-clause-moved : goal.returns-clause-moved
returns-clause-moved c = moved_layout
