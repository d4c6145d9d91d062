use Rattle.std.proofs.Common.{◌∙◌, sym}
use Rattle.field_values.specs.Names.{field_of, names_fault}
use Rattle.command_lines.proofs.WordLemmas.{at_exit, at_later_exit, names_are_fine}
use Rattle.command_lines.proofs.command.receive.Goals as goal

pub returns-in_err-stamp-clause-read : goal.returns-in_err-stamp-clause-read
returns-in_err-stamp-clause-read c = at_exit _ c.from_residual.result c.in_err-stamp.field-0.0 c.from_residual.ensures.1 (c.in_err-stamp.ensures.err _)

pub returns-in_err-dataset-clause-read : goal.returns-in_err-dataset-clause-read
returns-in_err-dataset-clause-read c =
    at_later_exit _ _ c.from_residual-in_err-dataset.result c.in_err-dataset.field-0.0
    (c.in_ok-stamp.ensures.ok _)
    c.from_residual-in_err-dataset.ensures.1 (c.in_err-dataset.ensures.err _)

pub returns-in_err-row-clause-read : goal.returns-in_err-row-clause-read
returns-in_err-row-clause-read c =
    at_later_exit _ _ c.from_residual-in_err-row.result c.in_err-row.field-0.0
    (c.in_ok-stamp.ensures.ok _ ∙ c.in_ok-dataset.ensures.ok _)
    c.from_residual-in_err-row.ensures.1 (c.in_err-row.ensures.err _)

pub returns-in_err-column-clause-read : goal.returns-in_err-column-clause-read
returns-in_err-column-clause-read c =
    at_later_exit _ _ c.from_residual-in_err-column.result c.in_err-column.field-0.0
    (c.in_ok-stamp.ensures.ok _ ∙ c.in_ok-dataset.ensures.ok _ ∙ c.in_ok-row.ensures.ok _)
    c.from_residual-in_err-column.ensures.1 (c.in_err-column.ensures.err _)

pub returns-in_err-value-clause-read : goal.returns-in_err-value-clause-read
returns-in_err-value-clause-read c =
    at_later_exit _ _ c.from_residual-in_err-value.result c.in_err-value.field-0.0
    (c.in_ok-stamp.ensures.ok _ ∙ c.in_ok-dataset.ensures.ok _ ∙ c.in_ok-row.ensures.ok _ ∙ c.in_ok-column.ensures.ok _)
    c.from_residual-in_err-value.ensures.1 (c.in_err-value.ensures.err _)

pub returns-in_err-end-clause-read : goal.returns-in_err-end-clause-read
returns-in_err-end-clause-read c =
    at_later_exit _ _ c.from_residual-in_err-end.result c.in_err-end.field-0.0
    (c.in_ok-stamp.ensures.ok _ ∙ c.in_ok-dataset.ensures.ok _ ∙ c.in_ok-row.ensures.ok _ ∙ c.in_ok-column.ensures.ok _ ∙ c.in_ok-value.ensures.ok _)
    c.from_residual-in_err-end.ensures.1 (c.in_err-end.ensures.err _)

pub unreachable-requires : goal.unreachable-requires
unreachable-requires c =
    names_are_fine c.in_ok-dataset.dataset c.in_ok-row.row c.in_ok-column.column c.in-Err.fault
    c.in_ok-dataset.ensures.good c.in_ok-row.ensures.good c.in_ok-column.ensures.good
    ((λ j. names_fault (field_of (sym c.as_str-2.ensures j) (sym c.as_str-3.ensures j) (sym c.as_str-4.ensures j))) ∙ c.in-Err.ensures.bad c.in_default.not-NoMemory)
