use Rattle.std.proofs.Common.{◌∙◌}
use Rattle.command_lines.proofs.WordLemmas.{at_exit, at_later_exit}
use Rattle.command_lines.proofs.pair_lines.transfer.Goals as goal

pub returns-in_err-from-clause-read : goal.returns-in_err-from-clause-read
returns-in_err-from-clause-read c = at_exit _ c.from_residual.result c.in_err-from.field-0.0 c.from_residual.ensures.1 (c.in_err-from.ensures.err _)

pub returns-in_err-to-clause-read : goal.returns-in_err-to-clause-read
returns-in_err-to-clause-read c =
    at_later_exit _ _ c.from_residual-in_err-to.result c.in_err-to.field-0.0
    (c.in_ok-from.ensures.ok _)
    c.from_residual-in_err-to.ensures.1 (c.in_err-to.ensures.err _)

pub returns-in_err-date-clause-read : goal.returns-in_err-date-clause-read
returns-in_err-date-clause-read c =
    at_later_exit _ _ c.from_residual-in_err-date.result c.in_err-date.field-0.0
    (c.in_ok-from.ensures.ok _ ∙ c.in_ok-to.ensures.ok _)
    c.from_residual-in_err-date.ensures.1 (c.in_err-date.ensures.err _)

pub returns-in_err-amount-clause-read : goal.returns-in_err-amount-clause-read
returns-in_err-amount-clause-read c =
    at_later_exit _ _ c.from_residual-in_err-amount.result c.in_err-amount.field-0.0
    (c.in_ok-from.ensures.ok _ ∙ c.in_ok-to.ensures.ok _ ∙ c.in_ok-date.ensures.ok _)
    c.from_residual-in_err-amount.ensures.1 (c.in_err-amount.ensures.err _)

pub returns-in_err-notes-clause-read : goal.returns-in_err-notes-clause-read
returns-in_err-notes-clause-read c =
    at_later_exit _ _ c.from_residual-in_err-notes.result c.in_err-notes.field-0.0
    (c.in_ok-from.ensures.ok _ ∙ c.in_ok-to.ensures.ok _ ∙ c.in_ok-date.ensures.ok _ ∙ c.in_ok-amount.ensures.ok _)
    c.from_residual-in_err-notes.ensures.1 (c.in_err-notes.ensures.err _)

pub returns-in_err-end-clause-read : goal.returns-in_err-end-clause-read
returns-in_err-end-clause-read c =
    at_later_exit _ _ c.from_residual-in_err-end.result c.in_err-end.field-0.0
    (c.in_ok-from.ensures.ok _ ∙ c.in_ok-to.ensures.ok _ ∙ c.in_ok-date.ensures.ok _ ∙ c.in_ok-amount.ensures.ok _ ∙ c.in_ok-notes.ensures.ok _)
    c.from_residual-in_err-end.ensures.1 (c.in_err-end.ensures.err _)
