use Rattle.sync_laws.proofs.Lines.{taken_back}
use Rattle.sync_laws.proofs.laws.lines_are_taken_back.Goals as goal

pub returns : goal.returns
returns c = taken_back c.lines_are_obeyed.ensures c.entries_are_taken_back.ensures c.lines_are_undone.ensures
