use Rattle.std.proofs.Common.{◌∙◌, ℕ, List, Ok, ap, sym}
use Rattle.book_edits.specs.declared.edit.BookEdit.TheVariants.{PayeeMerge}
use Rattle.command_lines.specs.Commands.{edit}
use Rattle.command_lines.proofs.WordLemmas.{at_exit, at_later_exit}
use Rattle.command_lines.proofs.edit_lines.payee_merge.Goals as goal

pub returns-in_err-to-clause-read : goal.returns-in_err-to-clause-read
returns-in_err-to-clause-read c = at_exit _ c.from_residual.result c.in_err-to.field-0.0 c.from_residual.ensures.1 (c.in_err-to.ensures.err _)

pub returns-in_err-ids-clause-read : goal.returns-in_err-ids-clause-read
returns-in_err-ids-clause-read c =
    at_later_exit _ _ c.from_residual-in_err-ids.result c.in_err-ids.field-0.0
    (c.in_ok-to.ensures.ok _)
    c.from_residual-in_err-ids.ensures.1 (c.in_err-ids.ensures.err _)

pub returns-clause-read : goal.returns-clause-read
returns-clause-read c =
    c.in_ok-to.ensures.ok _
    ∙ c.in_ok-ids.ensures.ok (λ (ids : List (List ℕ)). edit (PayeeMerge c.in_ok-to.to ids))
    ∙ ap (λ (ids : List (List ℕ)). Ok (edit (PayeeMerge c.in_ok-to.to ids))) (sym c.new.ensures)
