use Rattle.goal_templates.proofs.Noted.{notes_are_read_lem}
use Rattle.goal_templates.proofs.laws.notes_are_read.Goals as goal

pub returns : goal.returns
returns c = notes_are_read_lem
