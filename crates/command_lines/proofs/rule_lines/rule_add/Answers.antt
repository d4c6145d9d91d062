use Rattle.std.proofs.Common.{◌∙◌}
use Rattle.command_lines.proofs.WordLemmas.{at_exit, at_later_exit}
use Rattle.command_lines.proofs.rule_lines.rule_add.Goals as goal

pub returns-in_err-id-clause-read : goal.returns-in_err-id-clause-read
returns-in_err-id-clause-read c = at_exit _ c.from_residual.result c.in_err-id.field-0.0 c.from_residual.ensures.1 (c.in_err-id.ensures.err _)

pub returns-in_err-stage-clause-read : goal.returns-in_err-stage-clause-read
returns-in_err-stage-clause-read c =
    at_later_exit _ _ c.from_residual-in_err-stage.result c.in_err-stage.field-0.0
    (c.in_ok-id.ensures.ok _)
    c.from_residual-in_err-stage.ensures.1 (c.in_err-stage.ensures.err _)

pub returns-in_err-op-clause-read : goal.returns-in_err-op-clause-read
returns-in_err-op-clause-read c =
    at_later_exit _ _ c.from_residual-in_err-op.result c.in_err-op.field-0.0
    (c.in_ok-id.ensures.ok _ ∙ c.in_ok-stage.ensures.ok _)
    c.from_residual-in_err-op.ensures.1 (c.in_err-op.ensures.err _)

pub returns-in_err-conditions-clause-read : goal.returns-in_err-conditions-clause-read
returns-in_err-conditions-clause-read c =
    at_later_exit _ _ c.from_residual-in_err-conditions.result c.in_err-conditions.field-0.0
    (c.in_ok-id.ensures.ok _ ∙ c.in_ok-stage.ensures.ok _ ∙ c.in_ok-op.ensures.ok _)
    c.from_residual-in_err-conditions.ensures.1 (c.in_err-conditions.ensures.err _)

pub returns-in_err-actions-clause-read : goal.returns-in_err-actions-clause-read
returns-in_err-actions-clause-read c =
    at_later_exit _ _ c.from_residual-in_err-actions.result c.in_err-actions.field-0.0
    (c.in_ok-id.ensures.ok _ ∙ c.in_ok-stage.ensures.ok _ ∙ c.in_ok-op.ensures.ok _ ∙ c.in_ok-conditions.ensures.ok _)
    c.from_residual-in_err-actions.ensures.1 (c.in_err-actions.ensures.err _)

pub returns-in_err-end-clause-read : goal.returns-in_err-end-clause-read
returns-in_err-end-clause-read c =
    at_later_exit _ _ c.from_residual-in_err-end.result c.in_err-end.field-0.0
    (c.in_ok-id.ensures.ok _ ∙ c.in_ok-stage.ensures.ok _ ∙ c.in_ok-op.ensures.ok _ ∙ c.in_ok-conditions.ensures.ok _ ∙ c.in_ok-actions.ensures.ok _)
    c.from_residual-in_err-end.ensures.1 (c.in_err-end.ensures.err _)
