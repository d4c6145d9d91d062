use Rattle.std.proofs.Common.{ap, sym}
use Rattle.split_transfer.specs.declared.edit.TxChange.TheVariants.{Date, Amount, Account, Payee, Category, Notes, Cleared, Schedule}
use Rattle.command_lines.specs.Commands.{change, change_words}
use Rattle.command_lines.specs.Forms.{word, date_word, amount_word, flag_word, id_word}
use Rattle.command_lines.specs.Unread.{command_of_unread}
use Rattle.command_lines.proofs.WordLemmas.{err_by}
use Rattle.command_lines.proofs.pair_lines.change_of.Goals as goal

pub returns-in-date-clause-err : goal.returns-in-date-clause-err
unfolding change_words
returns-in-date-clause-err c =
    err_by (λ id. command_of_unread (date_word (λ v. change (Date v) id)) c.args.words.now) (λ id. command_of_unread (change_words id c.args.column.now) c.args.words.now) c.date_change.result
    (λ id. ap (λ t. command_of_unread (change_words id t) c.args.words.now) (sym c.in-date.is)) c.date_change.ensures.err

pub returns-in-amount-clause-err : goal.returns-in-amount-clause-err
unfolding change_words
returns-in-amount-clause-err c =
    err_by (λ id. command_of_unread (amount_word (λ v. change (Amount v) id)) c.args.words.now) (λ id. command_of_unread (change_words id c.args.column.now) c.args.words.now) c.amount_change.result
    (λ id. ap (λ t. command_of_unread (change_words id t) c.args.words.now) (sym c.in-amount.is)) c.amount_change.ensures.err

pub returns-in-account-clause-err : goal.returns-in-account-clause-err
unfolding change_words
returns-in-account-clause-err c =
    err_by (λ id. command_of_unread (word (λ v. change (Account v) id)) c.args.words.now) (λ id. command_of_unread (change_words id c.args.column.now) c.args.words.now) c.account_change.result
    (λ id. ap (λ t. command_of_unread (change_words id t) c.args.words.now) (sym c.in-account.is)) c.account_change.ensures.err

pub returns-in-payee-clause-err : goal.returns-in-payee-clause-err
unfolding change_words
returns-in-payee-clause-err c =
    err_by (λ id. command_of_unread (id_word (λ v. change (Payee v) id)) c.args.words.now) (λ id. command_of_unread (change_words id c.args.column.now) c.args.words.now) c.payee_change.result
    (λ id. ap (λ t. command_of_unread (change_words id t) c.args.words.now) (sym c.in-payee.is)) c.payee_change.ensures.err

pub returns-in-category-clause-err : goal.returns-in-category-clause-err
unfolding change_words
returns-in-category-clause-err c =
    err_by (λ id. command_of_unread (id_word (λ v. change (Category v) id)) c.args.words.now) (λ id. command_of_unread (change_words id c.args.column.now) c.args.words.now) c.category_change.result
    (λ id. ap (λ t. command_of_unread (change_words id t) c.args.words.now) (sym c.in-category.is)) c.category_change.ensures.err

pub returns-in-notes-clause-err : goal.returns-in-notes-clause-err
unfolding change_words
returns-in-notes-clause-err c =
    err_by (λ id. command_of_unread (word (λ v. change (Notes v) id)) c.args.words.now) (λ id. command_of_unread (change_words id c.args.column.now) c.args.words.now) c.notes_change.result
    (λ id. ap (λ t. command_of_unread (change_words id t) c.args.words.now) (sym c.in-notes.is)) c.notes_change.ensures.err

pub returns-in-cleared-clause-err : goal.returns-in-cleared-clause-err
unfolding change_words
returns-in-cleared-clause-err c =
    err_by (λ id. command_of_unread (flag_word (λ v. change (Cleared v) id)) c.args.words.now) (λ id. command_of_unread (change_words id c.args.column.now) c.args.words.now) c.cleared_change.result
    (λ id. ap (λ t. command_of_unread (change_words id t) c.args.words.now) (sym c.in-cleared.is)) c.cleared_change.ensures.err

pub returns-in-schedule-clause-err : goal.returns-in-schedule-clause-err
unfolding change_words
returns-in-schedule-clause-err c =
    err_by (λ id. command_of_unread (id_word (λ v. change (Schedule v) id)) c.args.words.now) (λ id. command_of_unread (change_words id c.args.column.now) c.args.words.now) c.schedule_change.result
    (λ id. ap (λ t. command_of_unread (change_words id t) c.args.words.now) (sym c.in-schedule.is)) c.schedule_change.ensures.err
