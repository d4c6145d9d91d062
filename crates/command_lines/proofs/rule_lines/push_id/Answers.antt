use Rattle.std.proofs.Common.{◌∙◌, ℕ, List, Result, ap, sym, subst}
use Rattle.command_lines.specs.declared.command.Command.{Command}
use Rattle.command_lines.specs.Commands.{IsCommandFault}
use Rattle.command_lines.specs.Forms.{some_texts}
use Rattle.command_lines.specs.Unread.{command_of_unread}
use Rattle.command_lines.proofs.Repeating.{next_text, text_next}
use Rattle.command_lines.proofs.WordLemmas.{at_err}
use Rattle.command_lines.proofs.rule_lines.push_id.Goals as goal

pub returns-in_err-id-clause-err : goal.returns-in_err-id-clause-err
returns-in_err-id-clause-err c =
    let ids = c.args.ids.now.items in
    at_err (λ fault. (made : List (List ℕ) → Command) → IsCommandFault (command_of_unread (some_texts ids made) c.args.words.now) fault)
    c.from_residual.result c.in_err-id.field-0.0 c.from_residual.ensures.1
    (λ made. subst (λ (meant : Result Command ℕ). IsCommandFault meant c.in_err-id.field-0.0)
    (sym (text_next ids made c.args.words.now.last c.args.words.now.words c.requires))
    (c.in_err-id.ensures.err (next_text ids made)))

pub returns-clause-ok : goal.returns-clause-ok
returns-clause-ok c = λ made.
    let ids = c.args.ids.now.items in
    text_next ids made c.args.words.now.last c.args.words.now.words c.requires
    ∙ c.in_ok-id.ensures.ok (next_text ids made)
    ∙ ap (λ (texts : List (List ℕ)). command_of_unread (some_texts texts made) c.text.new.self) (sym c.in_ok-push.ensures.items)
