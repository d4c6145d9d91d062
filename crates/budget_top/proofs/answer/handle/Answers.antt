use Rattle.std.proofs.Common.{refl}
use Rattle.budget_top.proofs.Plain.{plain_oks, plain_errs}
use Rattle.budget_top.proofs.answer.handle.Goals as goal

pub returns-clause-answered : goal.returns-clause-answered
returns-clause-answered g c =
    plain_oks _ _ _ c.args.asked.now refl c.answer_line.ensures.plain _ _ c.answer_line.result _ _ _ _ _ c.answer_line.ensures.ok c.answer_line.ensures.carries

pub returns-clause-unanswered : goal.returns-clause-unanswered
returns-clause-unanswered g c =
    plain_errs _ _ _ c.args.asked.now refl c.answer_line.ensures.plain _ _ c.answer_line.result _ _ _ _ _ _ _ c.answer_line.ensures.same c.answer_line.ensures.stops
    c.answer_line.ensures.new
