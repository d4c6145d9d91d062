use Rattle.sync_laws.proofs.Staying.{lines_stay}
use Rattle.sync_laws.proofs.laws.answered_lines_stay.Goals as goal

pub returns : goal.returns
returns c = lines_stay c.accepted_are_joined.ensures
