use Rattle.store_tables.proofs.SinceLemmas.{asks_since, asks_group, asks_nobody}
use Rattle.store_tables.proofs.laws.records_are_told.Goals as goal

pub returns-clause-since : goal.returns-clause-since
returns-clause-since c = asks_since

pub returns-clause-group : goal.returns-clause-group
returns-clause-group c = asks_group

pub returns-clause-nobody : goal.returns-clause-nobody
returns-clause-nobody c = asks_nobody
