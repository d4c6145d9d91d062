use Rattle.std.proofs.Common.{◌≡◌, ◌∙◌, ℕ, List, Result, ap, sym}
use Rattle.command_lines.specs.declared.command.Command.{Command}
use Rattle.command_lines.specs.Commands.{change_words, tx_set_words}
use Rattle.command_lines.specs.Unread.{UnreadWords, command_of_unread}
use Rattle.command_lines.proofs.WordLemmas.{at_exit, at_later_exit}
use Rattle.command_lines.proofs.pair_lines.tx_set.Goals as goal

-- a column by its name
by_name : (id column name : List ℕ) (unread : UnreadWords) (meant : Result Command ℕ) → meant ≡ command_of_unread (change_words id column) unread → name ≡ column
    → meant ≡ command_of_unread (change_words id name) unread
by_name id column name unread meant h same = h ∙ ap (λ (t : List ℕ). command_of_unread (change_words id t) unread) (sym same)

pub returns-in_err-id-clause-read : goal.returns-in_err-id-clause-read
returns-in_err-id-clause-read c = at_exit _ c.from_residual.result c.in_err-id.field-0.0 c.from_residual.ensures.1 (c.in_err-id.ensures.err _)

pub returns-in_err-column-clause-read : goal.returns-in_err-column-clause-read
returns-in_err-column-clause-read c =
    at_later_exit _ _ c.from_residual-in_err-column.result c.in_err-column.field-0.0
    (c.in_ok-id.ensures.ok _)
    c.from_residual-in_err-column.ensures.1 (c.in_err-column.ensures.err _)

pub returns-in_err-change-clause-read : goal.returns-in_err-change-clause-read
returns-in_err-change-clause-read c =
    at_later_exit _ _ c.from_residual-in_err-change.result c.in_err-change.field-0.0
    (by_name c.in_ok-id.id c.in_ok-column.column c.as_str.result.now c.text-2.new.self (command_of_unread tx_set_words c.args.words.now) (c.in_ok-id.ensures.ok _ ∙ c.in_ok-column.ensures.ok _) c.as_str.ensures)
    c.from_residual-in_err-change.ensures.1 (c.in_err-change.ensures.err c.in_ok-id.id)

pub returns-in_err-end-clause-read : goal.returns-in_err-end-clause-read
returns-in_err-end-clause-read c =
    at_later_exit _ _ c.from_residual-in_err-end.result c.in_err-end.field-0.0
    (by_name c.in_ok-id.id c.in_ok-column.column c.as_str.result.now c.text-2.new.self (command_of_unread tx_set_words c.args.words.now) (c.in_ok-id.ensures.ok _ ∙ c.in_ok-column.ensures.ok _) c.as_str.ensures ∙ c.in_ok-change.ensures.ok c.in_ok-id.id)
    c.from_residual-in_err-end.ensures.1 (c.in_err-end.ensures.err _)
