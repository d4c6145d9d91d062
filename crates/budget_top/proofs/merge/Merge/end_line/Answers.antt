use Rattle.std.proofs.Common.{refl}
use Rattle.std.proofs.lemmas.Result.{err_from_is_err_and}
use Rattle.budget_top.proofs.Standing.{breaks_end_with, stands_end_with}
use Rattle.budget_top.proofs.merge.Merge.end_line.Goals as goal

pub returns-in_err-settle-clause-err : goal.returns-in_err-settle-clause-err
returns-in_err-settle-clause-err g c =
    let p = err_from_is_err_and c.from_residual.result c.from_residual.ensures.1 in
    rw p.1 (λ entry read h.
    breaks_end_with entry (g.W.Sink.taken c.args.sink.now) (g.W.Sink.taken c.settle.new.sink) read c.args.bytes.now c.args.self.now c.requires.within c.in_err-settle.ensures.err h)

pub returns-clause-ok : goal.returns-clause-ok
returns-clause-ok g c = λ entry read h.
    stands_end_with entry (g.W.Sink.taken c.args.sink.now) (g.W.Sink.taken c.settle.new.sink) read c.args.bytes.now c.args.self.now c.settle.new.self _ c.requires.within c.in_ok-settle.ensures.ok refl c.clear.ensures refl refl h
