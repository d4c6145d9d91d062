use Rattle.std.proofs.Common.{◌∙◌}
use Rattle.command_lines.proofs.WordLemmas.{at_exit, at_later_exit}
use Rattle.command_lines.proofs.edit_lines.note.Goals as goal

pub returns-in_err-id-clause-read : goal.returns-in_err-id-clause-read
returns-in_err-id-clause-read c = at_exit _ c.from_residual.result c.in_err-id.field-0.0 c.from_residual.ensures.1 (c.in_err-id.ensures.err _)

pub returns-in_err-text-clause-read : goal.returns-in_err-text-clause-read
returns-in_err-text-clause-read c =
    at_later_exit _ _ c.from_residual-in_err-text.result c.in_err-text.field-0.0
    (c.in_ok-id.ensures.ok _)
    c.from_residual-in_err-text.ensures.1 (c.in_err-text.ensures.err _)

pub returns-in_err-end-clause-read : goal.returns-in_err-end-clause-read
returns-in_err-end-clause-read c =
    at_later_exit _ _ c.from_residual-in_err-end.result c.in_err-end.field-0.0
    (c.in_ok-id.ensures.ok _ ∙ c.in_ok-text.ensures.ok _)
    c.from_residual-in_err-end.ensures.1 (c.in_err-end.ensures.err _)
