use Rattle.sync_wire.proofs.Plain.{numbers_short}
use Rattle.sync_wire.proofs.laws.numbers_are_short.Goals as goal

pub returns : goal.returns
returns c = numbers_short
