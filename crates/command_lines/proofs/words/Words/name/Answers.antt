use Rattle.std.proofs.Common.{sym, ap, subst, ◌∙◌}
use Rattle.std.proofs.lemmas.Result.{err_from_is_err_and}
use Rattle.field_values.specs.declared.name.NamePart.TheVariants.{Dataset}
use Rattle.field_values.specs.Names.{IsName, name_fault}
use Rattle.field_values.proofs.NameLemmas.{name_without_fault}
use Rattle.command_lines.proofs.words.Words.name.Goals as goal

pub returns-in_err-word-clause-err : goal.returns-in_err-word-clause-err
returns-in_err-word-clause-err c =
    let p = err_from_is_err_and c.from_residual.result c.from_residual.ensures.1 in rw (p.1, p.2) (λ next. c.in_err-word.ensures.err _)

pub returns-in_ok-into_text-in-Ok-clause-good : goal.returns-in_ok-into_text-in-Ok-clause-good
returns-in_ok-into_text-in-Ok-clause-good c =
    let word = name_without_fault Dataset c.in_ok-word.word (ap (name_fault Dataset) (sym (c.as_bytes.ensures.value ∙ c.as_str.ensures)) ∙ c.in-Ok.ensures.good) in
    subst IsName (sym c.in_ok-into_text-in-Ok.ensures) word
