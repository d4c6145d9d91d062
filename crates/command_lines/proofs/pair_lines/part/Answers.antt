use Rattle.std.proofs.Common.{List, ℕ, ℤ, Option, Result, sym, subst}
use Rattle.command_lines.specs.declared.command.Command.{Command}
use Rattle.command_lines.specs.Commands.{IsCommandFault}
use Rattle.command_lines.specs.Forms.{Wanted, amount_word, id_word}
use Rattle.command_lines.specs.Unread.{command_of_unread}
use Rattle.command_lines.proofs.WordLemmas.{at_err}
use Rattle.command_lines.proofs.pair_lines.part.Goals as goal

pub returns-in_err-amount-clause-err : goal.returns-in_err-amount-clause-err
returns-in_err-amount-clause-err c =
    at_err (λ fault. (next : ℤ → Option (List ℕ) → Wanted) → IsCommandFault (command_of_unread (amount_word (λ n. id_word (next n))) c.args.words.now) fault)
    c.from_residual.result c.in_err-amount.field-0.0 c.from_residual.ensures.1 (λ next. c.in_err-amount.ensures.err (λ n. id_word (next n)))

pub returns-in_err-category-clause-err : goal.returns-in_err-category-clause-err
returns-in_err-category-clause-err c =
    at_err (λ fault. (next : ℤ → Option (List ℕ) → Wanted) → IsCommandFault (command_of_unread (amount_word (λ n. id_word (next n))) c.args.words.now) fault)
    c.from_residual-in_err-category.result c.in_err-category.field-0.0 c.from_residual-in_err-category.ensures.1
    (λ next. subst (λ (meant : Result Command ℕ). IsCommandFault meant c.in_err-category.field-0.0) (sym (c.in_ok-amount.ensures.ok (λ n. id_word (next n)))) (c.in_err-category.ensures.err (next c.in_ok-amount.amount)))
