use Rattle.store_tables.proofs.CopiedLemmas.{copies_all, moves_contents}
use Rattle.store_tables.proofs.CopyLemmas.{asks_items}
use Rattle.store_tables.proofs.laws.copies_are_whole.Goals as goal

pub returns-clause-copied : goal.returns-clause-copied
returns-clause-copied c = copies_all

pub returns-clause-moved : goal.returns-clause-moved
returns-clause-moved c = moves_contents

pub returns-clause-shown : goal.returns-clause-shown
returns-clause-shown c = asks_items
