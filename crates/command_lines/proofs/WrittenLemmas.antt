-- The line of a command is read as the command.
use Rattle.std.proofs.Common.{◌≡◌, ℕ, List, [], ◌∷◌, length, is_none, Some, Ok, Err, refl, ap, sym, subst, ◌∙◌}
use Rattle.std.specs.Prelude.{codes, if◌then◌else◌}
use Rattle.std.proofs.lemmas.Bool.{le-ltb}
use Rattle.field_values.specs.declared.name.NamePart.TheVariants.{Dataset}
use Rattle.field_values.specs.Names.{IsName, field_of}
use Rattle.field_values.specs.Value.{value_text}
use Rattle.field_values.proofs.NameLemmas.{name_fault-none}
use Rattle.field_values.proofs.Values.{values_read_back_lem}
use Rattle.hybrid_clock.specs.declared.stamp.Stamp.{Stamp}
use Rattle.hybrid_clock.specs.Stamp.{IsStamp, stamp_text}
use Rattle.hybrid_clock.proofs.Writing.{text_reads}
use Rattle.field_merge.specs.declared.message.Message.{Message}
use Rattle.field_merge.specs.Lines.{parts}
use Rattle.field_merge.specs.Messages.{IsMessage, message_of, message_texts}
use Rattle.device_core.specs.declared.edit.Edit.TheVariants.{Book, Pair, Rule, Schedule as OfSchedule, Import, GoalsApply}
use Rattle.book_edits.specs.declared.edit.BookEdit.TheVariants.{Set, AccountAdd, AccountRename, AccountOffbudget, AccountReopen, AccountClose, GroupAdd, GroupRename, GroupDelete, CategoryAdd, CategoryRename, CategoryMove, CategoryDelete, CategoryDeleteTo, PayeeAdd, PayeeRename, PayeeDelete, PayeeMerge, TxAdd, Budget, Carryover, Hold, Move, Track, TrackCarryover, Note}
use Rattle.command_lines.specs.declared.command.Command.{Command}
use Rattle.command_lines.specs.declared.command.Command.TheVariants.{Edit, Undo, Redo, Receive, Fields, Messages, Value, Trie, Balance, Register, Cell, Sheet, Broken, ScheduleStatus, Goals, TrackCell, TrackSheet, Sync}
use Rattle.std.specs.Fmt.{signed_decimal}
use Rattle.command_lines.specs.Forms.{Wanted, word, no_more, misfit, of_stamp, stamp_word, name_word, amount_of, id_of, flag_of, date_of, month_of, amount_word, flag_word, date_word, id_word}
use Rattle.command_lines.specs.FormLaws.{id_text}
use Rattle.command_lines.specs.Commands.{words_of_row_lines, words_of_state_lines, words_of_add_lines, words_of_month_lines, words_of_book_lines, words_of_pair_lines, words_of_rule_lines, words_of_schedule_lines, words_of_statement_lines, words_of_plan_lines, words_of_session_lines, line_words, of_words, longest_line, IsCommand}
use Rattle.command_lines.specs.Written.{flag_text, date_text, month_text, CanBeWritten, command_line, CommandsReadBack}
use Rattle.command_lines.proofs.Amounts.{amount_back, id_of_back}
use Rattle.command_lines.proofs.FormTexts.{flag_back, date_back, month_back}
use Rattle.command_lines.proofs.FormLemmas.{Makes}
use Rattle.command_lines.proofs.LineBack.{makes_form, line_back}
use Rattle.command_lines.proofs.PairsBack.{pairs_back}
use Rattle.command_lines.proofs.RepeatLemmas.{texts_make}
use Rattle.command_lines.proofs.RulesBack.{rules_back, schedules_back}

-- ---- a word of a form

makes_stamp : (next : Stamp → Wanted) (s : Stamp) (texts : List (List ℕ)) (c : Command) → IsStamp s → Makes (next s) texts c → Makes (stamp_word next) (stamp_text s ∷ texts) c
makes_stamp next s texts c is h = subst (λ read. Makes (of_stamp next read) texts c) (sym (text_reads s is)) h

makes_name : (next : List ℕ → Wanted) (name : List ℕ) (texts : List (List ℕ)) (c : Command) → IsName name → Makes (next name) texts c → Makes (name_word next) (name ∷ texts) c
makes_name next name texts c is h = subst (λ fault. Makes (if is_none fault then next name else misfit) texts c) (sym (name_fault-none Dataset name is)) h

-- ---- the words of each command

receive_makes : (m : Message) → IsMessage m → Makes (line_words (codes "receive")) (message_texts m) (Receive m)
receive_makes m is =
    let d : List ℕ = m.field.dataset in
    let r : List ℕ = m.field.row in
    let c : List ℕ = m.field.column in
    let v : List ℕ = value_text m.value in
    let value_word : List ℕ → List ℕ → List ℕ → Wanted = λ dataset row column. word (λ value. no_more (Receive (message_of m.stamp (field_of dataset row column) value))) in
    let column_word : List ℕ → List ℕ → Wanted = λ dataset row. name_word (λ column. value_word dataset row column) in
    let row_word : List ℕ → Wanted = λ dataset. name_word (λ row. column_word dataset row) in
    makes_stamp _ m.stamp (d ∷ r ∷ c ∷ v ∷ []) (Receive m) is.stamp (
    makes_name row_word d (r ∷ c ∷ v ∷ []) (Receive m) is.field.dataset (
    makes_name (column_word d) r (c ∷ v ∷ []) (Receive m) is.field.row (
    makes_name (value_word d r) c (v ∷ []) (Receive m) is.field.column (
    ap (λ value. Some (Receive (record m { value = value }))) (values_read_back_lem m.value is.value)))))

words_back : (c : Command) → IsCommand c → CanBeWritten c → of_words (parts (command_line c)) ≡ Ok c
unfolding words_of_row_lines words_of_state_lines words_of_add_lines words_of_month_lines words_of_book_lines words_of_pair_lines words_of_rule_lines words_of_schedule_lines words_of_statement_lines words_of_plan_lines words_of_session_lines
words_back (Edit (Book (Set d r c v))) is can =
    line_back (codes "set") (d ∷ r ∷ c ∷ value_text v ∷ []) (Edit (Book (Set d r c v))) refl (ap (λ value. Some (Edit (Book (Set d r c value)))) (values_read_back_lem v is))
words_back (Receive m) is can = line_back (codes "receive") (message_texts m) (Receive m) refl (receive_makes m is)
words_back Fields is can = line_back (codes "fields") [] Fields refl refl
words_back (Messages since) is can = line_back (codes "messages") (since ∷ []) (Messages since) refl refl
words_back (Value d r c) is can = line_back (codes "value") (d ∷ r ∷ c ∷ []) (Value d r c) refl refl
words_back Trie is can = line_back (codes "trie") [] Trie refl refl
words_back (Edit (Book (AccountRename id name))) is can =
    line_back (codes "account-rename") (id ∷ name ∷ []) (Edit (Book (AccountRename id name))) refl refl
words_back (Edit (Book (GroupRename id name))) is can =
    line_back (codes "group-rename") (id ∷ name ∷ []) (Edit (Book (GroupRename id name))) refl refl
words_back (Edit (Book (CategoryRename id name))) is can =
    line_back (codes "category-rename") (id ∷ name ∷ []) (Edit (Book (CategoryRename id name))) refl refl
words_back (Edit (Book (PayeeRename id name))) is can =
    line_back (codes "payee-rename") (id ∷ name ∷ []) (Edit (Book (PayeeRename id name))) refl refl
words_back (Edit (Book (CategoryMove id group))) is can =
    line_back (codes "category-move") (id ∷ group ∷ []) (Edit (Book (CategoryMove id group))) refl refl
words_back (Edit (Book (Note id text))) is can =
    line_back (codes "note") (id ∷ text ∷ []) (Edit (Book (Note id text))) refl refl
words_back (Edit (Book (AccountReopen id))) is can =
    line_back (codes "account-reopen") (id ∷ []) (Edit (Book (AccountReopen id))) refl refl
words_back (Edit (Book (AccountClose id))) is can =
    line_back (codes "account-close") (id ∷ []) (Edit (Book (AccountClose id))) refl refl
words_back (Edit (Book (AccountOffbudget id off))) is can =
    line_back (codes "account-offbudget") (id ∷ flag_text off ∷ []) (Edit (Book (AccountOffbudget id off))) refl (makes_form flag_of (λ off. no_more (Edit (Book (AccountOffbudget id off)))) off (flag_text off) [] (Edit (Book (AccountOffbudget id off))) (flag_back off) refl)
words_back (Edit (Book (GroupDelete id))) is can =
    line_back (codes "group-delete") (id ∷ []) (Edit (Book (GroupDelete id))) refl refl
words_back (Edit (Book (CategoryDelete id))) is can =
    line_back (codes "category-delete") (id ∷ []) (Edit (Book (CategoryDelete id))) refl refl
words_back (Edit (Book (CategoryDeleteTo id to))) is can =
    line_back (codes "category-delete") (id ∷ to ∷ []) (Edit (Book (CategoryDeleteTo id to))) refl refl
words_back (Edit (Book (PayeeDelete id))) is can =
    line_back (codes "payee-delete") (id ∷ []) (Edit (Book (PayeeDelete id))) refl refl
words_back (Edit (Book (PayeeMerge to ids))) is can =
    line_back (codes "payee-merge") (to ∷ ids) (Edit (Book (PayeeMerge to ids))) refl (texts_make ids [] (λ ids. Edit (Book (PayeeMerge to ids))) can)
words_back (Edit (Book (AccountAdd id name off))) is can =
    line_back (codes "account-add") (id_text id ∷ name ∷ flag_text off ∷ []) (Edit (Book (AccountAdd id name off))) refl (makes_form id_of (λ id. word (λ name. flag_word (λ off. no_more (Edit (Book (AccountAdd id name off)))))) id (id_text id) (name ∷ flag_text off ∷ []) (Edit (Book (AccountAdd id name off))) (id_of_back id can) (makes_form flag_of (λ off. no_more (Edit (Book (AccountAdd id name off)))) off (flag_text off) [] (Edit (Book (AccountAdd id name off))) (flag_back off) refl))
words_back (Edit (Book (GroupAdd id name income))) is can =
    line_back (codes "group-add") (id_text id ∷ name ∷ flag_text income ∷ []) (Edit (Book (GroupAdd id name income))) refl (makes_form id_of (λ id. word (λ name. flag_word (λ income. no_more (Edit (Book (GroupAdd id name income)))))) id (id_text id) (name ∷ flag_text income ∷ []) (Edit (Book (GroupAdd id name income))) (id_of_back id can) (makes_form flag_of (λ income. no_more (Edit (Book (GroupAdd id name income)))) income (flag_text income) [] (Edit (Book (GroupAdd id name income))) (flag_back income) refl))
words_back (Edit (Book (CategoryAdd id group name))) is can =
    line_back (codes "category-add") (id_text id ∷ group ∷ name ∷ []) (Edit (Book (CategoryAdd id group name))) refl (makes_form id_of (λ id. word (λ group. word (λ name. no_more (Edit (Book (CategoryAdd id group name)))))) id (id_text id) (group ∷ name ∷ []) (Edit (Book (CategoryAdd id group name))) (id_of_back id can) refl)
words_back (Edit (Book (PayeeAdd id name))) is can =
    line_back (codes "payee-add") (id_text id ∷ name ∷ []) (Edit (Book (PayeeAdd id name))) refl (makes_form id_of (λ id. word (λ name. no_more (Edit (Book (PayeeAdd id name))))) id (id_text id) (name ∷ []) (Edit (Book (PayeeAdd id name))) (id_of_back id can) refl)
words_back (Edit (Book (TxAdd id account date amount payee category notes))) is can =
    line_back (codes "tx-add") (id_text id ∷ account ∷ date_text date ∷ signed_decimal amount ∷ id_text payee ∷ id_text category ∷ notes ∷ []) (Edit (Book (TxAdd id account date amount payee category notes))) refl (makes_form id_of (λ id. word (λ account. date_word (λ date. amount_word (λ amount. id_word (λ payee. id_word (λ category. word (λ notes. no_more (Edit (Book (TxAdd id account date amount payee category notes)))))))))) id (id_text id) (account ∷ date_text date ∷ signed_decimal amount ∷ id_text payee ∷ id_text category ∷ notes ∷ []) (Edit (Book (TxAdd id account date amount payee category notes))) (id_of_back id can.0) (makes_form date_of (λ date. amount_word (λ amount. id_word (λ payee. id_word (λ category. word (λ notes. no_more (Edit (Book (TxAdd id account date amount payee category notes)))))))) date (date_text date) (signed_decimal amount ∷ id_text payee ∷ id_text category ∷ notes ∷ []) (Edit (Book (TxAdd id account date amount payee category notes))) (date_back date can.1) (makes_form amount_of (λ amount. id_word (λ payee. id_word (λ category. word (λ notes. no_more (Edit (Book (TxAdd id account date amount payee category notes))))))) amount (signed_decimal amount) (id_text payee ∷ id_text category ∷ notes ∷ []) (Edit (Book (TxAdd id account date amount payee category notes))) (amount_back amount can.2) (makes_form id_of (λ payee. id_word (λ category. word (λ notes. no_more (Edit (Book (TxAdd id account date amount payee category notes)))))) payee (id_text payee) (id_text category ∷ notes ∷ []) (Edit (Book (TxAdd id account date amount payee category notes))) (id_of_back payee can.3) (makes_form id_of (λ category. word (λ notes. no_more (Edit (Book (TxAdd id account date amount payee category notes))))) category (id_text category) (notes ∷ []) (Edit (Book (TxAdd id account date amount payee category notes))) (id_of_back category can.4) refl)))))
words_back (Edit (Book (Budget month category amount))) is can =
    line_back (codes "budget") (month_text month ∷ category ∷ signed_decimal amount ∷ []) (Edit (Book (Budget month category amount))) refl (makes_form month_of (λ month. word (λ category. amount_word (λ amount. no_more (Edit (Book (Budget month category amount)))))) month (month_text month) (category ∷ signed_decimal amount ∷ []) (Edit (Book (Budget month category amount))) (month_back month can.0) (makes_form amount_of (λ amount. no_more (Edit (Book (Budget month category amount)))) amount (signed_decimal amount) [] (Edit (Book (Budget month category amount))) (amount_back amount can.1) refl))
words_back (Edit (Book (Carryover month category carries))) is can =
    line_back (codes "carryover") (month_text month ∷ category ∷ flag_text carries ∷ []) (Edit (Book (Carryover month category carries))) refl (makes_form month_of (λ month. word (λ category. flag_word (λ carries. no_more (Edit (Book (Carryover month category carries)))))) month (month_text month) (category ∷ flag_text carries ∷ []) (Edit (Book (Carryover month category carries))) (month_back month can) (makes_form flag_of (λ carries. no_more (Edit (Book (Carryover month category carries)))) carries (flag_text carries) [] (Edit (Book (Carryover month category carries))) (flag_back carries) refl))
words_back (Edit (Book (Hold month amount))) is can =
    line_back (codes "hold") (month_text month ∷ signed_decimal amount ∷ []) (Edit (Book (Hold month amount))) refl (makes_form month_of (λ month. amount_word (λ amount. no_more (Edit (Book (Hold month amount))))) month (month_text month) (signed_decimal amount ∷ []) (Edit (Book (Hold month amount))) (month_back month can.0) (makes_form amount_of (λ amount. no_more (Edit (Book (Hold month amount)))) amount (signed_decimal amount) [] (Edit (Book (Hold month amount))) (amount_back amount can.1) refl))
words_back (Edit (Book (Move month from to amount))) is can =
    line_back (codes "move") (month_text month ∷ from ∷ to ∷ signed_decimal amount ∷ []) (Edit (Book (Move month from to amount))) refl (makes_form month_of (λ month. word (λ from. word (λ to. amount_word (λ amount. no_more (Edit (Book (Move month from to amount))))))) month (month_text month) (from ∷ to ∷ signed_decimal amount ∷ []) (Edit (Book (Move month from to amount))) (month_back month can.0) (makes_form amount_of (λ amount. no_more (Edit (Book (Move month from to amount)))) amount (signed_decimal amount) [] (Edit (Book (Move month from to amount))) (amount_back amount can.1) refl))
words_back (Edit (Book (Track month category amount))) is can =
    line_back (codes "track") (month_text month ∷ category ∷ signed_decimal amount ∷ []) (Edit (Book (Track month category amount))) refl (makes_form month_of (λ month. word (λ category. amount_word (λ amount. no_more (Edit (Book (Track month category amount)))))) month (month_text month) (category ∷ signed_decimal amount ∷ []) (Edit (Book (Track month category amount))) (month_back month can.0) (makes_form amount_of (λ amount. no_more (Edit (Book (Track month category amount)))) amount (signed_decimal amount) [] (Edit (Book (Track month category amount))) (amount_back amount can.1) refl))
words_back (Edit (Book (TrackCarryover month category carries))) is can =
    line_back (codes "track-carryover") (month_text month ∷ category ∷ flag_text carries ∷ []) (Edit (Book (TrackCarryover month category carries))) refl (makes_form month_of (λ month. word (λ category. flag_word (λ carries. no_more (Edit (Book (TrackCarryover month category carries)))))) month (month_text month) (category ∷ flag_text carries ∷ []) (Edit (Book (TrackCarryover month category carries))) (month_back month can) (makes_form flag_of (λ carries. no_more (Edit (Book (TrackCarryover month category carries)))) carries (flag_text carries) [] (Edit (Book (TrackCarryover month category carries))) (flag_back carries) refl))
words_back (Balance account) is can =
    line_back (codes "balance") (account ∷ []) (Balance account) refl refl
words_back (Register account) is can =
    line_back (codes "register") (account ∷ []) (Register account) refl refl
words_back (Cell month name) is can =
    line_back (codes "cell") (month_text month ∷ name ∷ []) (Cell month name) refl (makes_form month_of (λ month. word (λ name. no_more (Cell month name))) month (month_text month) (name ∷ []) (Cell month name) (month_back month can) refl)
words_back (Sheet month) is can =
    line_back (codes "sheet") (month_text month ∷ []) (Sheet month) refl (makes_form month_of (λ month. no_more (Sheet month)) month (month_text month) [] (Sheet month) (month_back month can) refl)
words_back Broken is can = line_back (codes "broken") [] Broken refl refl
words_back (ScheduleStatus id day) is can =
    line_back (codes "schedule-status") (id ∷ date_text day ∷ []) (ScheduleStatus id day) refl (makes_form date_of (λ day. no_more (ScheduleStatus id day)) day (date_text day) [] (ScheduleStatus id day) (date_back day can) refl)
words_back (Edit (Pair edit)) is can = pairs_back edit can
words_back (Edit (Rule edit)) is can = rules_back edit can
words_back (Edit (OfSchedule edit)) is can = schedules_back edit can
words_back (Edit (Import edit)) is can = line_back (codes "import") (edit.account ∷ edit.statement ∷ []) (Edit (Import edit)) refl refl
words_back (Edit (GoalsApply month)) is can =
    line_back (codes "goals-apply") (month_text month ∷ []) (Edit (GoalsApply month)) refl (makes_form month_of (λ month. no_more (Edit (GoalsApply month))) month (month_text month) [] (Edit (GoalsApply month)) (month_back month can) refl)
words_back (Goals month) is can =
    line_back (codes "goals") (month_text month ∷ []) (Goals month) refl (makes_form month_of (λ month. no_more (Goals month)) month (month_text month) [] (Goals month) (month_back month can) refl)
words_back (TrackCell month name) is can =
    line_back (codes "track-cell") (month_text month ∷ name ∷ []) (TrackCell month name) refl (makes_form month_of (λ month. word (λ name. no_more (TrackCell month name))) month (month_text month) (name ∷ []) (TrackCell month name) (month_back month can) refl)
words_back (TrackSheet month) is can =
    line_back (codes "track-sheet") (month_text month ∷ []) (TrackSheet month) refl (makes_form month_of (λ month. no_more (TrackSheet month)) month (month_text month) [] (TrackSheet month) (month_back month can) refl)
words_back Undo is can = line_back (codes "undo") [] Undo refl refl
words_back Redo is can = line_back (codes "redo") [] Redo refl refl
words_back Sync is can = line_back (codes "sync") [] Sync refl refl

pub read_back : CommandsReadBack
read_back c is can short =
    ap (λ long. if long then Err 0 else of_words (parts (command_line c))) (le-ltb longest_line (length (command_line c)) short) ∙ words_back c is can
