use Rattle.sync_laws.proofs.EditKinds.{of_their_kind}
use Rattle.sync_laws.proofs.laws.edits_are_of_their_kind.Goals as goal

pub returns : goal.returns
returns c = of_their_kind c.writes_are_joined.ensures
