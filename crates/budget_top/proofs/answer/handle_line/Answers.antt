use Rattle.budget_top.proofs.Syncing.{unasked}
use Rattle.budget_top.proofs.answer.handle_line.Goals as goal

pub returns-in-Err-clause-unanswered : goal.returns-in-Err-clause-unanswered
returns-in-Err-clause-unanswered g c = unasked _ _ _ _ _ _ _ _ _ _
