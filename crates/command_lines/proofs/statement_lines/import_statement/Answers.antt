use Rattle.std.proofs.Common.{◌∙◌}
use Rattle.command_lines.proofs.WordLemmas.{at_exit, at_later_exit}
use Rattle.command_lines.proofs.statement_lines.import_statement.Goals as goal

pub returns-in_err-account-clause-read : goal.returns-in_err-account-clause-read
returns-in_err-account-clause-read c = at_exit _ c.from_residual.result c.in_err-account.field-0.0 c.from_residual.ensures.1 (c.in_err-account.ensures.err _)

pub returns-in_err-statement-clause-read : goal.returns-in_err-statement-clause-read
returns-in_err-statement-clause-read c =
    at_later_exit _ _ c.from_residual-in_err-statement.result c.in_err-statement.field-0.0
    (c.in_ok-account.ensures.ok _)
    c.from_residual-in_err-statement.ensures.1 (c.in_err-statement.ensures.err _)

pub returns-in_err-end-clause-read : goal.returns-in_err-end-clause-read
returns-in_err-end-clause-read c =
    at_later_exit _ _ c.from_residual-in_err-end.result c.in_err-end.field-0.0
    (c.in_ok-account.ensures.ok _ ∙ c.in_ok-statement.ensures.ok _)
    c.from_residual-in_err-end.ensures.1 (c.in_err-end.ensures.err _)
