use Rattle.std.proofs.Common.{ℕ, List, [], Result, map, sym, subst}
use Rattle.split_transfer.specs.declared.edit.SplitPart.{SplitPart}
use Rattle.command_lines.specs.declared.command.Command.{Command}
use Rattle.command_lines.specs.Commands.{IsCommandFault, share_of}
use Rattle.command_lines.specs.Forms.{Share, some_shares}
use Rattle.command_lines.specs.Unread.{command_of_unread}
use Rattle.command_lines.proofs.WordLemmas.{at_err}
use Rattle.command_lines.proofs.pair_lines.parts.Goals as goal

pub returns-in_err-push_part-clause-err : goal.returns-in_err-push_part-clause-err
returns-in_err-push_part-clause-err c =
    at_err (λ fault. (made : List Share → Command) → IsCommandFault (command_of_unread (some_shares [] made) c.args.words.now) fault)
    c.from_residual.result c.in_err-push_part.field-0.0 c.from_residual.ensures.1
    (λ made. subst (λ (ps : List SplitPart). IsCommandFault (command_of_unread (some_shares (map share_of ps) made) c.args.words.now) c.in_err-push_part.field-0.0) c.new-parts.ensures.items
    (c.in_err-push_part.ensures.err made))

pub returns-in_err-push_part-2-clause-err : goal.returns-in_err-push_part-2-clause-err
returns-in_err-push_part-2-clause-err c =
    at_err (λ fault. (made : List Share → Command) → IsCommandFault (command_of_unread (some_shares [] made) c.args.words.now) fault)
    c.from_residual-in_err-push_part-2.result c.in_err-push_part-2.field-0.0 c.from_residual-in_err-push_part-2.ensures.1
    (λ made. subst (λ (meant : Result Command ℕ). IsCommandFault meant c.in_err-push_part-2.field-0.0) (sym (c.parts.invariant.0 made)) (c.in_err-push_part-2.ensures.err made))
