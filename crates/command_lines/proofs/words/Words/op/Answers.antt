use Rattle.std.proofs.lemmas.Result.{err_from_is_err_and}
use Rattle.command_lines.proofs.words.Words.op.Goals as goal

pub returns-in_err-word-clause-err : goal.returns-in_err-word-clause-err
returns-in_err-word-clause-err c =
    let p = err_from_is_err_and c.from_residual.result c.from_residual.ensures.1 in rw (p.1, p.2) (λ next. c.in_err-word.ensures.err _)
