use Rattle.std.proofs.Common.{refl}
use Rattle.std.proofs.lemmas.Result.{err_from_is_err_and}
use Rattle.budget_top.proofs.Standing.{front_as, appends_as}
use Rattle.budget_top.proofs.Serving.{stands_end, breaks_end, cuts_end}
use Rattle.budget_top.proofs.session.Session.end_line.Goals as goal

pub returns-in_err-answer-clause-err : goal.returns-in_err-answer-clause-err
returns-in_err-answer-clause-err g c =
    let p = err_from_is_err_and c.from_residual.result c.from_residual.ensures.1 in
    rw p.1 (λ e read s.
    breaks_end e read c.args.self.now _ _ s c.handle_line.ensures.told c.now-reading.result c.now-reading.ensures.given _ p.0 p.2 refl c.in_err-answer.ensures.unanswered)

pub returns-in_err-write_reply-clause-err : goal.returns-in_err-write_reply-clause-err
returns-in_err-write_reply-clause-err g c =
    let p = err_from_is_err_and c.from_residual-in_err-write_reply.result c.from_residual-in_err-write_reply.ensures.1 in
    rw (p.1, p.2) (λ e read s.
    cuts_end e read c.args.self.now _ _ s c.handle_line.ensures.told c.now-reading.result c.now-reading.ensures.given c.handle_line.new.device.state _ _ c.in_ok-answer.ensures.answered
    (front_as _ _ _ _ c.bytes.ensures.value c.in_err-write_reply.ensures.front) c.in_ok-answer.ensures.alone)

pub returns-clause-ok : goal.returns-clause-ok
returns-clause-ok g c = λ e read s.
    stands_end e read c.args.self.now _ _ s c.handle_line.ensures.told c.now-reading.result c.now-reading.ensures.given _ _ _ c.in_ok-answer.ensures.answered c.clear.ensures refl refl
    (appends_as _ _ _ _ c.bytes.ensures.value c.in_ok-write_reply.ensures.all)
