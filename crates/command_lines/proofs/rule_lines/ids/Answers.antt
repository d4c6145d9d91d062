use Rattle.std.proofs.Common.{ℕ, List, [], Result, sym, subst}
use Rattle.command_lines.specs.declared.command.Command.{Command}
use Rattle.command_lines.specs.Commands.{IsCommandFault}
use Rattle.command_lines.specs.Forms.{some_texts}
use Rattle.command_lines.specs.Unread.{command_of_unread}
use Rattle.command_lines.proofs.WordLemmas.{at_err}
use Rattle.command_lines.proofs.rule_lines.ids.Goals as goal

pub returns-in_err-push_id-clause-err : goal.returns-in_err-push_id-clause-err
returns-in_err-push_id-clause-err c =
    at_err (λ fault. (made : List (List ℕ) → Command) → IsCommandFault (command_of_unread (some_texts [] made) c.args.words.now) fault)
    c.from_residual.result c.in_err-push_id.field-0.0 c.from_residual.ensures.1
    (λ made. subst (λ (ids : List (List ℕ)). IsCommandFault (command_of_unread (some_texts ids made) c.args.words.now) c.in_err-push_id.field-0.0) c.new-ids.ensures.items
    (c.in_err-push_id.ensures.err made))

pub returns-in_err-push_id-2-clause-err : goal.returns-in_err-push_id-2-clause-err
returns-in_err-push_id-2-clause-err c =
    at_err (λ fault. (made : List (List ℕ) → Command) → IsCommandFault (command_of_unread (some_texts [] made) c.args.words.now) fault)
    c.from_residual-in_err-push_id-2.result c.in_err-push_id-2.field-0.0 c.from_residual-in_err-push_id-2.ensures.1
    (λ made. subst (λ (meant : Result Command ℕ). IsCommandFault meant c.in_err-push_id-2.field-0.0) (sym (c.ids.invariant.0 made)) (c.in_err-push_id-2.ensures.err made))
