use Rattle.std.proofs.Common.{◌∙◌}
use Rattle.command_lines.proofs.WordLemmas.{at_exit, at_later_exit}
use Rattle.command_lines.proofs.book_lines.track_carryover.Goals as goal

pub returns-in_err-month-clause-read : goal.returns-in_err-month-clause-read
returns-in_err-month-clause-read c = at_exit _ c.from_residual.result c.in_err-month.field-0.0 c.from_residual.ensures.1 (c.in_err-month.ensures.err _)

pub returns-in_err-category-clause-read : goal.returns-in_err-category-clause-read
returns-in_err-category-clause-read c =
    at_later_exit _ _ c.from_residual-in_err-category.result c.in_err-category.field-0.0
    (c.in_ok-month.ensures.ok _)
    c.from_residual-in_err-category.ensures.1 (c.in_err-category.ensures.err _)

pub returns-in_err-carries-clause-read : goal.returns-in_err-carries-clause-read
returns-in_err-carries-clause-read c =
    at_later_exit _ _ c.from_residual-in_err-carries.result c.in_err-carries.field-0.0
    (c.in_ok-month.ensures.ok _ ∙ c.in_ok-category.ensures.ok _)
    c.from_residual-in_err-carries.ensures.1 (c.in_err-carries.ensures.err _)

pub returns-in_err-end-clause-read : goal.returns-in_err-end-clause-read
returns-in_err-end-clause-read c =
    at_later_exit _ _ c.from_residual-in_err-end.result c.in_err-end.field-0.0
    (c.in_ok-month.ensures.ok _ ∙ c.in_ok-category.ensures.ok _ ∙ c.in_ok-carries.ensures.ok _)
    c.from_residual-in_err-end.ensures.1 (c.in_err-end.ensures.err _)
