use Rattle.store_tables.proofs.NamedGet.{text_asked, names_asked}
use Rattle.store_tables.proofs.laws.texts_are_told.Goals as goal

pub returns-clause-text : goal.returns-clause-text
returns-clause-text c = text_asked

pub returns-clause-names : goal.returns-clause-names
returns-clause-names c = names_asked
