use Rattle.std.proofs.Common.{◌∙◌}
use Rattle.std.proofs.lemmas.Result.{err_from_is_err_and}
use Rattle.book_edits.proofs.Months.{nameless}
use Rattle.book_edits.proofs.gains.checked_gains.Goals as goal

pub returns-in_err-named_gains-clause-err : goal.returns-in_err-named_gains-clause-err
returns-in_err-named_gains-clause-err c =
    let p = err_from_is_err_and c.from_residual-in_err-named_gains.result c.from_residual-in_err-named_gains.ensures.1 in
    let due = nameless c.args.book.now.rows c.args.id.now c.args.to.now c.as_slice.result.now c.in_err-named_gains.field-0.0 (c.as_slice.ensures.value ∙ c.in_ok-gains.ensures.ok) c.in_ok-gains.ensures.amounts c.in_err-named_gains.ensures.err in
    rw (p.1, p.2) due
