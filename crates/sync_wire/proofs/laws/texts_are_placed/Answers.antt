use Rattle.sync_wire.proofs.Fronts.{placed_text}
use Rattle.sync_wire.proofs.laws.texts_are_placed.Goals as goal

pub returns : goal.returns
returns c = placed_text
