use Rattle.std.proofs.Common.{true, false, refl, inl, inr}
use Rattle.budget_top.proofs.Answering.{answered_all, answered_taken, answered_limit, answered_stop}
use Rattle.budget_top.proofs.Serving.{breaks_from}
use Rattle.budget_top.proofs.device_run.answer_lines.Goals as goal

pub returns-then-session-clause-answers : goal.returns-then-session-clause-answers
returns-then-session-clause-answers g c = λ e s.
    let r = c.in-AtEnd.ensures.ends e s in
    answered_all true 1 _ _ e _ c.end_last.new.self _ r.0 refl c.if-session.true r.1 r.2.0 (c.in-AtEnd.ensures.at_end refl) (c.in-Ok.ensures.ok e r.0 r.2.1)
    (λ a. c.in-Ok.ensures.alone (c.in-AtEnd.ensures.alone tt a))

pub returns-else-session-clause-answers : goal.returns-else-session-clause-answers
returns-else-session-clause-answers g c = λ e s.
    let r = c.in-AtEnd.ensures.ends e s in
    answered_all false 0 _ _ e _ c.end_last.new.self _ r.0 refl c.if-session.false r.1 r.2.0 (c.in-AtEnd.ensures.at_end refl) (c.in-Ok.ensures.ok e r.0 r.2.1)
    (λ a. c.in-Ok.ensures.alone (c.in-AtEnd.ensures.alone tt a))

pub returns-in-Err-clause-answers : goal.returns-in-Err-clause-answers
returns-in-Err-clause-answers g c = λ e s.
    let r = c.in-AtEnd.ensures.ends e s in
    answered_stop c.in-Err.stop _ _ _ e _ _ r.0 _ (inr (c.in-AtEnd.ensures.at_end refl, r.2.0, refl)) c.status.ensures r.1
    (breaks_from c.in-Err.stop e _ _ _ _ (c.in-AtEnd.ensures.alone tt) (c.in-Err.ensures.err e r.0 r.2.1))

pub returns-in-SourceFailed-clause-answers : goal.returns-in-SourceFailed-clause-answers
returns-in-SourceFailed-clause-answers g c = λ e s.
    let r = c.in-SourceFailed.ensures.ends e s in
    answered_taken _ _ e _ _ r.0 r.1 (record { within = r.2.0; handled = r.2.1; stops = c.in-SourceFailed.ensures.alone tt })

pub returns-in-TooMuch-clause-answers : goal.returns-in-TooMuch-clause-answers
returns-in-TooMuch-clause-answers g c = λ e s.
    let r = c.in-TooMuch.ensures.ends e s in
    answered_limit _ _ e _ _ r.0 r.1 (record { past = r.2.0; handled = r.2.1; stops = c.in-TooMuch.ensures.alone tt })

pub returns-in-Stopped-clause-answers : goal.returns-in-Stopped-clause-answers
returns-in-Stopped-clause-answers g c = λ e s.
    let r = c.in-Stopped.ensures.ends e s in
    answered_stop c.in-Stopped.stop _ _ _ e _ _ r.0 _ (inl refl) c.status-in-Stopped.ensures r.1 r.2
