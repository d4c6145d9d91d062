use Rattle.std.proofs.Common.{◌∙◌}
use Rattle.command_lines.proofs.Repeating.{more_left}
use Rattle.command_lines.proofs.WordLemmas.{at_exit, at_later_exit}
use Rattle.command_lines.proofs.edit_lines.category_delete.Goals as goal

pub returns-in_err-id-clause-read : goal.returns-in_err-id-clause-read
returns-in_err-id-clause-read c = at_exit _ c.from_residual.result c.in_err-id.field-0.0 c.from_residual.ensures.1 (c.in_err-id.ensures.err _)

pub returns-in_err-to-clause-read : goal.returns-in_err-to-clause-read
returns-in_err-to-clause-read c =
    at_later_exit _ _ c.from_residual-in_err-to.result c.in_err-to.field-0.0
    (c.in_ok-id.ensures.ok _ ∙ more_left _ _ _ _ (c.is_done.ensures.more c.if-is_done.false))
    c.from_residual-in_err-to.ensures.1 (c.in_err-to.ensures.err _)

pub returns-in_err-end-clause-read : goal.returns-in_err-end-clause-read
returns-in_err-end-clause-read c =
    at_later_exit _ _ c.from_residual-in_err-end.result c.in_err-end.field-0.0
    (c.in_ok-id.ensures.ok _ ∙ more_left _ _ _ _ (c.is_done.ensures.more c.if-is_done.false) ∙ c.in_ok-to.ensures.ok _)
    c.from_residual-in_err-end.ensures.1 (c.in_err-end.ensures.err _)

pub returns-clause-read : goal.returns-clause-read
returns-clause-read c =
    c.in_ok-id.ensures.ok _
    ∙ more_left _ _ _ _ (c.is_done.ensures.more c.if-is_done.false)
    ∙ c.in_ok-to.ensures.ok _
    ∙ c.in_ok-end.ensures.ok _
