use Rattle.budget_top.proofs.Obeyed.{lines_obeyed}
use Rattle.budget_top.proofs.laws.lines_are_obeyed.Goals as goal

pub returns : goal.returns
returns c = lines_obeyed c.edits_read_back.ensures c.edits_are_made.ensures c.received_are_joined.ensures c.talks_are_told.ensures
