use Rattle.command_lines.proofs.WordLemmas.{at_exit, at_later_exit}
use Rattle.command_lines.proofs.plan_lines.track_sheet.Goals as goal

pub returns-in_err-month-clause-read : goal.returns-in_err-month-clause-read
returns-in_err-month-clause-read c = at_exit _ c.from_residual.result c.in_err-month.field-0.0 c.from_residual.ensures.1 (c.in_err-month.ensures.err _)

pub returns-in_err-end-clause-read : goal.returns-in_err-end-clause-read
returns-in_err-end-clause-read c =
    at_later_exit _ _ c.from_residual-in_err-end.result c.in_err-end.field-0.0
    (c.in_ok-month.ensures.ok _)
    c.from_residual-in_err-end.ensures.1 (c.in_err-end.ensures.err _)
