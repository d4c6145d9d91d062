use Rattle.std.proofs.Common.{◌∙◌}
use Rattle.command_lines.proofs.WordLemmas.{at_exit, at_later_exit}
use Rattle.command_lines.proofs.schedule_lines.schedule_add.Goals as goal

pub returns-in_err-id-clause-read : goal.returns-in_err-id-clause-read
returns-in_err-id-clause-read c = at_exit _ c.from_residual.result c.in_err-id.field-0.0 c.from_residual.ensures.1 (c.in_err-id.ensures.err _)

pub returns-in_err-name-clause-read : goal.returns-in_err-name-clause-read
returns-in_err-name-clause-read c =
    at_later_exit _ _ c.from_residual-in_err-name.result c.in_err-name.field-0.0
    (c.in_ok-id.ensures.ok _)
    c.from_residual-in_err-name.ensures.1 (c.in_err-name.ensures.err _)

pub returns-in_err-account-clause-read : goal.returns-in_err-account-clause-read
returns-in_err-account-clause-read c =
    at_later_exit _ _ c.from_residual-in_err-account.result c.in_err-account.field-0.0
    (c.in_ok-id.ensures.ok _ ∙ c.in_ok-name.ensures.ok _)
    c.from_residual-in_err-account.ensures.1 (c.in_err-account.ensures.err _)

pub returns-in_err-payee-clause-read : goal.returns-in_err-payee-clause-read
returns-in_err-payee-clause-read c =
    at_later_exit _ _ c.from_residual-in_err-payee.result c.in_err-payee.field-0.0
    (c.in_ok-id.ensures.ok _ ∙ c.in_ok-name.ensures.ok _ ∙ c.in_ok-account.ensures.ok _)
    c.from_residual-in_err-payee.ensures.1 (c.in_err-payee.ensures.err _)

pub returns-in_err-amount-clause-read : goal.returns-in_err-amount-clause-read
returns-in_err-amount-clause-read c =
    at_later_exit _ _ c.from_residual-in_err-amount.result c.in_err-amount.field-0.0
    (c.in_ok-id.ensures.ok _ ∙ c.in_ok-name.ensures.ok _ ∙ c.in_ok-account.ensures.ok _ ∙ c.in_ok-payee.ensures.ok _)
    c.from_residual-in_err-amount.ensures.1 (c.in_err-amount.ensures.err _)

pub returns-in_err-recur-clause-read : goal.returns-in_err-recur-clause-read
returns-in_err-recur-clause-read c =
    at_later_exit _ _ c.from_residual-in_err-recur.result c.in_err-recur.field-0.0
    (c.in_ok-id.ensures.ok _ ∙ c.in_ok-name.ensures.ok _ ∙ c.in_ok-account.ensures.ok _ ∙ c.in_ok-payee.ensures.ok _ ∙ c.in_ok-amount.ensures.ok _)
    c.from_residual-in_err-recur.ensures.1 (c.in_err-recur.ensures.err _)

pub returns-in_err-end-clause-read : goal.returns-in_err-end-clause-read
returns-in_err-end-clause-read c =
    at_later_exit _ _ c.from_residual-in_err-end.result c.in_err-end.field-0.0
    (c.in_ok-id.ensures.ok _ ∙ c.in_ok-name.ensures.ok _ ∙ c.in_ok-account.ensures.ok _ ∙ c.in_ok-payee.ensures.ok _ ∙ c.in_ok-amount.ensures.ok _ ∙ c.in_ok-recur.ensures.ok _)
    c.from_residual-in_err-end.ensures.1 (c.in_err-end.ensures.err _)
