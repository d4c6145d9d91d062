use Rattle.store_tables.proofs.GroupLemmas.{makes_groups}
use Rattle.store_tables.proofs.laws.groups_are_made.Goals as goal

pub returns : goal.returns
returns c = makes_groups
