-- Of each line that edits the rows of the books: its words can be given, and its command is told by them.
use Rattle.std.proofs.Common.{◌≡◌, ℕ, List, [], ◌∷◌, ◌⊎◌, refl}
use Rattle.std.specs.Prelude.{codes}
use Rattle.device_core.specs.declared.edit.Edit.TheVariants.{Book}
use Rattle.book_edits.specs.declared.edit.BookEdit.TheVariants.{AccountAdd, GroupAdd, CategoryAdd, PayeeAdd, TxAdd, AccountOffbudget, PayeeMerge}
use Rattle.command_lines.specs.declared.command.Command.TheVariants.{Edit}
use Rattle.command_lines.specs.Forms.{misfit, no_more, word, some_texts, amount_of, flag_of, date_of, amount_word, flag_word, date_word, id_word, id_of}
use Rattle.command_lines.specs.Commands.{edit, account_add_words, group_add_words, category_add_words, payee_add_words, tx_add_words, add_lines, words_of_add_lines, account_reopen_words, account_close_words, account_offbudget_words, group_delete_words, category_delete_words, payee_delete_words, payee_merge_words, state_lines, words_of_state_lines, account_rename_words, group_rename_words, category_rename_words, payee_rename_words, category_move_words, note_words, row_lines, words_of_row_lines, words_of_month_lines}
use Rattle.command_lines.proofs.Amounts.{amount_written, id_told}
use Rattle.command_lines.proofs.FormTexts.{flag_written, date_written}
use Rattle.command_lines.proofs.Opening.{Opens, can_end, open_end, open_word, open_more, open_id, open_amount, open_flag, open_date}
use Rattle.command_lines.proofs.Telling.{Tells, tells_form}
use Rattle.command_lines.proofs.Known.{IsKnown, AreKnown, known_in}
use Rattle.command_lines.proofs.BookLines.{month_lines_known}

-- ---- the lines that add a row

account_add_opens : Opens account_add_words
account_add_opens = open_id _ (λ id. open_word _ (λ name. open_flag _ (λ off. open_end _)))

account_add_tells : Tells (codes "account-add" ∷ []) account_add_words
account_add_tells = λ id_t.
    tells_form (id_of id_t) (codes "account-add" ∷ id_t ∷ []) id_t id_of (λ id. word (λ name. flag_word (λ off. no_more (Edit (Book (AccountAdd id name off)))))) refl (λ id id_read. λ name. λ off_t.
    tells_form (flag_of off_t) (codes "account-add" ∷ id_t ∷ name ∷ off_t ∷ []) off_t flag_of (λ off. no_more (Edit (Book (AccountAdd id name off)))) refl (λ off off_read. record { same = λ i. codes "account-add" ∷ (id_told id_t id id_read).1 i ∷ name ∷ (flag_written off_t off off_read) i ∷ []; valid = tt; can = (id_told id_t id id_read).0 }))

group_add_opens : Opens group_add_words
group_add_opens = open_id _ (λ id. open_word _ (λ name. open_flag _ (λ income. open_end _)))

group_add_tells : Tells (codes "group-add" ∷ []) group_add_words
group_add_tells = λ id_t.
    tells_form (id_of id_t) (codes "group-add" ∷ id_t ∷ []) id_t id_of (λ id. word (λ name. flag_word (λ income. no_more (Edit (Book (GroupAdd id name income)))))) refl (λ id id_read. λ name. λ income_t.
    tells_form (flag_of income_t) (codes "group-add" ∷ id_t ∷ name ∷ income_t ∷ []) income_t flag_of (λ income. no_more (Edit (Book (GroupAdd id name income)))) refl (λ income income_read. record { same = λ i. codes "group-add" ∷ (id_told id_t id id_read).1 i ∷ name ∷ (flag_written income_t income income_read) i ∷ []; valid = tt; can = (id_told id_t id id_read).0 }))

category_add_opens : Opens category_add_words
category_add_opens = open_id _ (λ id. open_word _ (λ group. open_word _ (λ name. open_end _)))

category_add_tells : Tells (codes "category-add" ∷ []) category_add_words
category_add_tells = λ id_t.
    tells_form (id_of id_t) (codes "category-add" ∷ id_t ∷ []) id_t id_of (λ id. word (λ group. word (λ name. no_more (Edit (Book (CategoryAdd id group name)))))) refl (λ id id_read. λ group. λ name. record { same = λ i. codes "category-add" ∷ (id_told id_t id id_read).1 i ∷ group ∷ name ∷ []; valid = tt; can = (id_told id_t id id_read).0 })

payee_add_opens : Opens payee_add_words
payee_add_opens = open_id _ (λ id. open_word _ (λ name. open_end _))

payee_add_tells : Tells (codes "payee-add" ∷ []) payee_add_words
payee_add_tells = λ id_t.
    tells_form (id_of id_t) (codes "payee-add" ∷ id_t ∷ []) id_t id_of (λ id. word (λ name. no_more (Edit (Book (PayeeAdd id name))))) refl (λ id id_read. λ name. record { same = λ i. codes "payee-add" ∷ (id_told id_t id id_read).1 i ∷ name ∷ []; valid = tt; can = (id_told id_t id id_read).0 })

tx_add_opens : Opens tx_add_words
tx_add_opens = open_id _ (λ id. open_word _ (λ account. open_date _ (λ date. open_amount _ (λ amount. open_id _ (λ payee. open_id _ (λ category. open_word _ (λ notes. open_end _)))))))

tx_add_tells : Tells (codes "tx-add" ∷ []) tx_add_words
tx_add_tells = λ id_t.
    tells_form (id_of id_t) (codes "tx-add" ∷ id_t ∷ []) id_t id_of (λ id. word (λ account. date_word (λ date. amount_word (λ amount. id_word (λ payee. id_word (λ category. word (λ notes. no_more (Edit (Book (TxAdd id account date amount payee category notes)))))))))) refl (λ id id_read. λ account. λ date_t.
    tells_form (date_of date_t) (codes "tx-add" ∷ id_t ∷ account ∷ date_t ∷ []) date_t date_of (λ date. amount_word (λ amount. id_word (λ payee. id_word (λ category. word (λ notes. no_more (Edit (Book (TxAdd id account date amount payee category notes)))))))) refl (λ date date_read. λ amount_t.
    tells_form (amount_of amount_t) (codes "tx-add" ∷ id_t ∷ account ∷ date_t ∷ amount_t ∷ []) amount_t amount_of (λ amount. id_word (λ payee. id_word (λ category. word (λ notes. no_more (Edit (Book (TxAdd id account date amount payee category notes))))))) refl (λ amount amount_read. λ payee_t.
    tells_form (id_of payee_t) (codes "tx-add" ∷ id_t ∷ account ∷ date_t ∷ amount_t ∷ payee_t ∷ []) payee_t id_of (λ payee. id_word (λ category. word (λ notes. no_more (Edit (Book (TxAdd id account date amount payee category notes)))))) refl (λ payee payee_read. λ category_t.
    tells_form (id_of category_t) (codes "tx-add" ∷ id_t ∷ account ∷ date_t ∷ amount_t ∷ payee_t ∷ category_t ∷ []) category_t id_of (λ category. word (λ notes. no_more (Edit (Book (TxAdd id account date amount payee category notes))))) refl (λ category category_read. λ notes. record { same = λ i. codes "tx-add" ∷ (id_told id_t id id_read).1 i ∷ account ∷ (date_written date_t date date_read).0 i ∷ (amount_written amount_t amount amount_read).1 i ∷ (id_told payee_t payee payee_read).1 i ∷ (id_told category_t category category_read).1 i ∷ notes ∷ []; valid = tt; can = ((id_told id_t id id_read).0, (date_written date_t date date_read).1, (amount_written amount_t amount amount_read).0, (id_told payee_t payee payee_read).0, (id_told category_t category category_read).0) })))))

add_lines_are : AreKnown add_lines
add_lines_are = (record { good = refl; plain = refl; form = tt; goes = account_add_opens.1; tells = account_add_tells }, (record { good = refl; plain = refl; form = tt; goes = group_add_opens.1; tells = group_add_tells }, (record { good = refl; plain = refl; form = tt; goes = category_add_opens.1; tells = category_add_tells }, (record { good = refl; plain = refl; form = tt; goes = payee_add_opens.1; tells = payee_add_tells }, (record { good = refl; plain = refl; form = tt; goes = tx_add_opens.1; tells = tx_add_tells }, tt)))))

pub add_lines_known : (name : List ℕ) → (words_of_add_lines name ≡ misfit) ⊎ IsKnown name (words_of_add_lines name)
unfolding words_of_add_lines
add_lines_known name = known_in add_lines name (words_of_month_lines name) add_lines_are (month_lines_known name)

-- ---- the lines that open, close or delete rows

account_reopen_opens : Opens account_reopen_words
account_reopen_opens = open_word _ (λ id. open_end _)

account_reopen_tells : Tells (codes "account-reopen" ∷ []) account_reopen_words
account_reopen_tells = λ id. record { same = refl; valid = tt; can = tt }

account_close_opens : Opens account_close_words
account_close_opens = open_word _ (λ id. open_end _)

account_close_tells : Tells (codes "account-close" ∷ []) account_close_words
account_close_tells = λ id. record { same = refl; valid = tt; can = tt }

account_offbudget_opens : Opens account_offbudget_words
account_offbudget_opens = open_word _ (λ id. open_flag _ (λ off. open_end _))

account_offbudget_tells : Tells (codes "account-offbudget" ∷ []) account_offbudget_words
account_offbudget_tells = λ id. λ off_t.
    tells_form (flag_of off_t) (codes "account-offbudget" ∷ id ∷ off_t ∷ []) off_t flag_of (λ off. no_more (Edit (Book (AccountOffbudget id off)))) refl (λ off off_read. record { same = λ i. codes "account-offbudget" ∷ id ∷ (flag_written off_t off off_read) i ∷ []; valid = tt; can = tt })

group_delete_opens : Opens group_delete_words
group_delete_opens = open_word _ (λ id. open_end _)

group_delete_tells : Tells (codes "group-delete" ∷ []) group_delete_words
group_delete_tells = λ id. record { same = refl; valid = tt; can = tt }

category_delete_opens : Opens category_delete_words
category_delete_opens = open_word _ (λ id. open_more _ _ (λ to. open_end _))

category_delete_tells : Tells (codes "category-delete" ∷ []) category_delete_words
category_delete_tells = λ id. (record { same = refl; valid = tt; can = tt }, λ to. record { same = refl; valid = tt; can = tt })

payee_delete_opens : Opens payee_delete_words
payee_delete_opens = open_word _ (λ id. open_end _)

payee_delete_tells : Tells (codes "payee-delete" ∷ []) payee_delete_words
payee_delete_tells = λ id. record { same = refl; valid = tt; can = tt }

payee_merge_opens : Opens payee_merge_words
payee_merge_opens = open_word _ (λ to. (can_end (some_texts [] (λ ids. edit (PayeeMerge to ids))) tt tt, tt))

payee_merge_tells : Tells (codes "payee-merge" ∷ []) payee_merge_words
payee_merge_tells = λ to ids some. record { same = refl; valid = tt; can = some }

state_lines_are : AreKnown state_lines
state_lines_are = (record { good = refl; plain = refl; form = tt; goes = account_reopen_opens.1; tells = account_reopen_tells }, (record { good = refl; plain = refl; form = tt; goes = account_close_opens.1; tells = account_close_tells }, (record { good = refl; plain = refl; form = tt; goes = account_offbudget_opens.1; tells = account_offbudget_tells }, (record { good = refl; plain = refl; form = tt; goes = group_delete_opens.1; tells = group_delete_tells }, (record { good = refl; plain = refl; form = tt; goes = category_delete_opens.1; tells = category_delete_tells }, (record { good = refl; plain = refl; form = tt; goes = payee_delete_opens.1; tells = payee_delete_tells }, (record { good = refl; plain = refl; form = tt; goes = payee_merge_opens.1; tells = payee_merge_tells }, tt)))))))

pub state_lines_known : (name : List ℕ) → (words_of_state_lines name ≡ misfit) ⊎ IsKnown name (words_of_state_lines name)
unfolding words_of_state_lines
state_lines_known name = known_in state_lines name (words_of_add_lines name) state_lines_are (add_lines_known name)

-- ---- the lines that give a row a name, a place or a note

account_rename_opens : Opens account_rename_words
account_rename_opens = open_word _ (λ id. open_word _ (λ name. open_end _))

account_rename_tells : Tells (codes "account-rename" ∷ []) account_rename_words
account_rename_tells = λ id. λ name. record { same = refl; valid = tt; can = tt }

group_rename_opens : Opens group_rename_words
group_rename_opens = open_word _ (λ id. open_word _ (λ name. open_end _))

group_rename_tells : Tells (codes "group-rename" ∷ []) group_rename_words
group_rename_tells = λ id. λ name. record { same = refl; valid = tt; can = tt }

category_rename_opens : Opens category_rename_words
category_rename_opens = open_word _ (λ id. open_word _ (λ name. open_end _))

category_rename_tells : Tells (codes "category-rename" ∷ []) category_rename_words
category_rename_tells = λ id. λ name. record { same = refl; valid = tt; can = tt }

payee_rename_opens : Opens payee_rename_words
payee_rename_opens = open_word _ (λ id. open_word _ (λ name. open_end _))

payee_rename_tells : Tells (codes "payee-rename" ∷ []) payee_rename_words
payee_rename_tells = λ id. λ name. record { same = refl; valid = tt; can = tt }

category_move_opens : Opens category_move_words
category_move_opens = open_word _ (λ id. open_word _ (λ group. open_end _))

category_move_tells : Tells (codes "category-move" ∷ []) category_move_words
category_move_tells = λ id. λ group. record { same = refl; valid = tt; can = tt }

note_opens : Opens note_words
note_opens = open_word _ (λ id. open_word _ (λ text. open_end _))

note_tells : Tells (codes "note" ∷ []) note_words
note_tells = λ id. λ text. record { same = refl; valid = tt; can = tt }

row_lines_are : AreKnown row_lines
row_lines_are = (record { good = refl; plain = refl; form = tt; goes = account_rename_opens.1; tells = account_rename_tells }, (record { good = refl; plain = refl; form = tt; goes = group_rename_opens.1; tells = group_rename_tells }, (record { good = refl; plain = refl; form = tt; goes = category_rename_opens.1; tells = category_rename_tells }, (record { good = refl; plain = refl; form = tt; goes = payee_rename_opens.1; tells = payee_rename_tells }, (record { good = refl; plain = refl; form = tt; goes = category_move_opens.1; tells = category_move_tells }, (record { good = refl; plain = refl; form = tt; goes = note_opens.1; tells = note_tells }, tt))))))

pub row_lines_known : (name : List ℕ) → (words_of_row_lines name ≡ misfit) ⊎ IsKnown name (words_of_row_lines name)
unfolding words_of_row_lines
row_lines_known name = known_in row_lines name (words_of_state_lines name) row_lines_are (state_lines_known name)
