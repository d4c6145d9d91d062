use Rattle.std.proofs.Common.{◌∙◌, ℕ, List, Result, map, ap, sym, subst}
use Rattle.command_lines.specs.declared.command.Command.{Command}
use Rattle.command_lines.specs.Commands.{IsCommandFault, share_of}
use Rattle.command_lines.specs.Forms.{Share, some_shares}
use Rattle.command_lines.specs.Unread.{command_of_unread}
use Rattle.command_lines.proofs.Shares.{next_share, share_next, one_more, shares_some}
use Rattle.command_lines.proofs.WordLemmas.{at_err}
use Rattle.command_lines.proofs.pair_lines.push_part.Goals as goal

pub returns-in_err-part-clause-err : goal.returns-in_err-part-clause-err
returns-in_err-part-clause-err c =
    let ps = c.args.parts.now.items in
    at_err (λ fault. (made : List Share → Command) → IsCommandFault (command_of_unread (some_shares (map share_of ps) made) c.args.words.now) fault)
    c.from_residual.result c.in_err-part.field-0.0 c.from_residual.ensures.1
    (λ made. subst (λ (meant : Result Command ℕ). IsCommandFault meant c.in_err-part.field-0.0)
    (sym (share_next (map share_of ps) made c.args.words.now.last c.args.words.now.words (λ some. c.requires (shares_some ps some))))
    (c.in_err-part.ensures.err (next_share (map share_of ps) made)))

pub returns-clause-ok : goal.returns-clause-ok
returns-clause-ok c = λ made.
    let ps = c.args.parts.now.items in
    share_next (map share_of ps) made c.args.words.now.last c.args.words.now.words (λ some. c.requires (shares_some ps some))
    ∙ c.in_ok-part.ensures.ok (next_share (map share_of ps) made)
    ∙ ap (λ (shares : List Share). command_of_unread (some_shares shares made) c.part.new.words) (one_more ps c.in_ok-part.part ∙ ap (map share_of) (sym c.in_ok-push.ensures.items))
