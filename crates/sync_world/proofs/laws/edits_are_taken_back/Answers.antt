use Rattle.sync_world.proofs.Taking.{take_back}
use Rattle.sync_world.proofs.laws.edits_are_taken_back.Goals as goal

pub returns : goal.returns
returns c = take_back c.lines_are_undone.ensures
