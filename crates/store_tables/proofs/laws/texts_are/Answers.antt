use Rattle.store_tables.proofs.TextLemmas.{making_texts, made_texts, moved_texts, all_texts}
use Rattle.store_tables.proofs.laws.texts_are.Goals as goal

pub returns-clause-made : goal.returns-clause-made
returns-clause-made c = made_texts

pub returns-clause-moved : goal.returns-clause-moved
returns-clause-moved c = moved_texts

pub returns-clause-all : goal.returns-clause-all
returns-clause-all c = all_texts

pub returns-clause-making : goal.returns-clause-making
returns-clause-making c = making_texts
