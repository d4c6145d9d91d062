use Rattle.std.proofs.Common.{refl}
use Rattle.std.proofs.lemmas.Result.{err_from_is_err_and}
use Rattle.budget_top.proofs.Standing.{front_as, appends_as}
use Rattle.budget_top.proofs.Playing.{stands_end, halts_end, cuts_end}
use Rattle.budget_top.proofs.play.Play.end_line.Goals as goal

pub returns-in_err-answer-clause-err : goal.returns-in_err-answer-clause-err
returns-in_err-answer-clause-err g c =
    let p = err_from_is_err_and c.from_residual.result c.from_residual.ensures.1 in
    rw (p.1, p.2) (λ entry read s. halts_end entry _ entry read c.args.self.now s)

pub returns-in_err-write_reply-clause-err : goal.returns-in_err-write_reply-clause-err
returns-in_err-write_reply-clause-err g c =
    let p = err_from_is_err_and c.from_residual-in_err-write_reply.result c.from_residual-in_err-write_reply.ensures.1 in
    rw (p.1, p.2) (λ entry read s.
    cuts_end entry _ _ read c.args.self.now s _ _ _ c.in_ok-answer.ensures.ok (front_as _ _ _ _ c.bytes.ensures.value c.in_err-write_reply.ensures.front))

pub returns-clause-ok : goal.returns-clause-ok
returns-clause-ok g c = λ entry read s.
    stands_end entry _ _ read c.args.self.now s _ _ _ c.in_ok-answer.ensures.ok c.clear.ensures refl (appends_as _ _ _ _ c.bytes.ensures.value c.in_ok-write_reply.ensures.all)
