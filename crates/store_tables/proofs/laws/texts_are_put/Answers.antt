use Rattle.store_tables.proofs.NamedPut.{does_put}
use Rattle.store_tables.proofs.laws.texts_are_put.Goals as goal

pub returns : goal.returns
returns c = does_put
