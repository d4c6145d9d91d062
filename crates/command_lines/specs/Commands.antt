-- The lines of a device: which words each has, and what it commands.
use Rattle.std.specs.Prelude.{◌≡◌, ℕ, List, [], ◌∷◌, length, map, Bool, nat_lt, if◌then◌else◌, codes, Result, Ok, Err}
use Rattle.std.specs.Str.{bytes_eq}
use Rattle.field_values.specs.Names.{field_of}
use Rattle.field_values.specs.Value.{value_of}
use Rattle.field_merge.specs.Lines.{parts}
use Rattle.field_merge.specs.Messages.{IsMessage, message_of}
use Rattle.device_core.specs.declared.edit.Edit.TheVariants.{Book, Pair, Rule, Schedule as OfSchedule, Import, GoalsApply}
use Rattle.device_core.specs.Edits.{IsEdit}
use Rattle.book_edits.specs.declared.edit.BookEdit.{BookEdit}
use Rattle.book_edits.specs.declared.edit.BookEdit.TheVariants.{Set, AccountAdd, AccountRename, AccountOffbudget, AccountReopen, AccountClose, GroupAdd, GroupRename, GroupDelete, CategoryAdd, CategoryRename, CategoryMove, CategoryDelete, CategoryDeleteTo, PayeeAdd, PayeeRename, PayeeDelete, PayeeMerge, TxAdd, Budget, Carryover, Hold, Move, Track, TrackCarryover, Note}
use Rattle.split_transfer.specs.declared.edit.PairEdit.{PairEdit}
use Rattle.split_transfer.specs.declared.edit.PairEdit.TheVariants.{TxSet, TxDelete, Split, Transfer}
use Rattle.split_transfer.specs.declared.edit.TxChange.{TxChange}
use Rattle.split_transfer.specs.declared.edit.TxChange.TheVariants.{Date, Amount, Account, Payee, Category, Notes, Cleared, Schedule}
use Rattle.split_transfer.specs.declared.edit.SplitPart.{SplitPart}
use Rattle.rule_engine.specs.declared.edit.RuleEdit.{RuleEdit}
use Rattle.rule_engine.specs.declared.edit.RuleEdit.TheVariants.{RuleAdd, RuleDelete, RulesRun}
use Rattle.schedules.specs.declared.edit.ScheduleEdit.{ScheduleEdit}
use Rattle.schedules.specs.declared.edit.ScheduleEdit.TheVariants.{Add, Post, Skip, Delete}
use Rattle.command_lines.specs.declared.command.Command.{Command}
use Rattle.command_lines.specs.declared.command.Command.TheVariants.{Edit, Undo, Redo, Receive, Fields, Messages, Value, Trie, Balance, Register, Cell, Sheet, Broken, ScheduleStatus, Goals, TrackCell, TrackSheet, Sync}
use Rattle.command_lines.specs.declared.command.CommandFault.{CommandFault}
use Rattle.command_lines.specs.declared.command.CommandFault.TheVariants.{BadCommand, NoMemory}
use Rattle.command_lines.specs.Forms.{Share, Wanted, word, may_end, some_texts, some_shares, no_more, misfit, stamp_word, name_word, amount_word, flag_word, date_word, month_word, id_word, stage_word, op_word, command_of}

-- an edit of the books
abbrev pub edit : BookEdit → Command
edit e = Edit (Book e)

-- the words of each line, behind its name. `set`: a field's three names, which the edit judges, and the text of a value
abbrev pub set_words : Wanted
set_words = word (λ dataset. word (λ row. word (λ column. word (λ value.
    no_more (edit (Set dataset row column (value_of value)))))))

-- `receive`: the parts of a message's line
abbrev pub receive_words : Wanted
receive_words = stamp_word (λ stamp. name_word (λ dataset. name_word (λ row. name_word (λ column. word (λ value.
    no_more (Receive (message_of stamp (field_of dataset row column) value)))))))

-- `fields`: no word
abbrev pub fields_words : Wanted
fields_words = no_more Fields

-- `messages`: any text
abbrev pub messages_words : Wanted
messages_words = word (λ since. no_more (Messages since))

-- `value`: any three texts
abbrev pub value_words : Wanted
value_words = word (λ dataset. word (λ row. word (λ column. no_more (Value dataset row column))))

-- `trie`: no word
abbrev pub trie_words : Wanted
trie_words = no_more Trie

-- the lines that give a row a name, a place or a note: an id, and a name, another id or a text
abbrev pub account_rename_words : Wanted
account_rename_words = word (λ id. word (λ name. no_more (edit (AccountRename id name))))

abbrev pub group_rename_words : Wanted
group_rename_words = word (λ id. word (λ name. no_more (edit (GroupRename id name))))

abbrev pub category_rename_words : Wanted
category_rename_words = word (λ id. word (λ name. no_more (edit (CategoryRename id name))))

abbrev pub payee_rename_words : Wanted
payee_rename_words = word (λ id. word (λ name. no_more (edit (PayeeRename id name))))

abbrev pub category_move_words : Wanted
category_move_words = word (λ id. word (λ group. no_more (edit (CategoryMove id group))))

abbrev pub note_words : Wanted
note_words = word (λ id. word (λ text. no_more (edit (Note id text))))

-- the lines that open, close or delete a row: an id; and whether an account stands outside the budget
abbrev pub account_reopen_words : Wanted
account_reopen_words = word (λ id. no_more (edit (AccountReopen id)))

abbrev pub account_close_words : Wanted
account_close_words = word (λ id. no_more (edit (AccountClose id)))

abbrev pub account_offbudget_words : Wanted
account_offbudget_words = word (λ id. flag_word (λ off. no_more (edit (AccountOffbudget id off))))

abbrev pub group_delete_words : Wanted
group_delete_words = word (λ id. no_more (edit (GroupDelete id)))

-- `category-delete`: a category, which is deleted, or is handed on where another one stands behind it
abbrev pub category_delete_words : Wanted
category_delete_words = word (λ id. may_end (edit (CategoryDelete id)) (λ to. no_more (edit (CategoryDeleteTo id to))))

abbrev pub payee_delete_words : Wanted
payee_delete_words = word (λ id. no_more (edit (PayeeDelete id)))

-- `payee-merge`: the payee that stays, and those that become it, one or more
abbrev pub payee_merge_words : Wanted
payee_merge_words = word (λ to. some_texts [] (λ ids. edit (PayeeMerge to ids)))

-- the lines that add a row: an id or a hyphen for a new one, and what the row is to have
abbrev pub account_add_words : Wanted
account_add_words = id_word (λ id. word (λ name. flag_word (λ off. no_more (edit (AccountAdd id name off)))))

abbrev pub group_add_words : Wanted
group_add_words = id_word (λ id. word (λ name. flag_word (λ income. no_more (edit (GroupAdd id name income)))))

abbrev pub category_add_words : Wanted
category_add_words = id_word (λ id. word (λ group. word (λ name. no_more (edit (CategoryAdd id group name)))))

abbrev pub payee_add_words : Wanted
payee_add_words = id_word (λ id. word (λ name. no_more (edit (PayeeAdd id name))))

abbrev pub tx_add_words : Wanted
tx_add_words = id_word (λ id. word (λ account. date_word (λ date. amount_word (λ amount. id_word (λ payee. id_word (λ category. word (λ notes. no_more (edit (TxAdd id account date amount payee category notes)))))))))

-- the lines that budget a month: a month, and what is given, held back or moved in it
abbrev pub budget_words : Wanted
budget_words = month_word (λ month. word (λ category. amount_word (λ amount. no_more (edit (Budget month category amount)))))

abbrev pub carryover_words : Wanted
carryover_words = month_word (λ month. word (λ category. flag_word (λ carries. no_more (edit (Carryover month category carries)))))

abbrev pub hold_words : Wanted
hold_words = month_word (λ month. amount_word (λ amount. no_more (edit (Hold month amount))))

abbrev pub move_amount_words : Wanted
move_amount_words = month_word (λ month. word (λ from. word (λ to. amount_word (λ amount. no_more (edit (Move month from to amount))))))

-- the same of the tracking budget: a month, a category, and what it is given or whether it carries over
abbrev pub track_words : Wanted
track_words = month_word (λ month. word (λ category. amount_word (λ amount. no_more (edit (Track month category amount)))))

abbrev pub track_carryover_words : Wanted
track_carryover_words = month_word (λ month. word (λ category. flag_word (λ carries. no_more (edit (TrackCarryover month category carries)))))

-- the lines that ask of the books: an account; or a month, and the name of a cell
abbrev pub balance_words : Wanted
balance_words = word (λ account. no_more (Balance account))

abbrev pub register_words : Wanted
register_words = word (λ account. no_more (Register account))

abbrev pub cell_words : Wanted
cell_words = month_word (λ month. word (λ name. no_more (Cell month name)))

abbrev pub sheet_words : Wanted
sheet_words = month_word (λ month. no_more (Sheet month))

-- `broken`: no word
abbrev pub broken_words : Wanted
broken_words = no_more Broken

-- an edit of a transaction and of those that hang together with it
abbrev pub pair : PairEdit → Command
pair e = Edit (Pair e)

-- `tx-delete`: a transaction
abbrev pub tx_delete_words : Wanted
tx_delete_words = word (λ id. no_more (pair (TxDelete id)))

-- a part of a split: an amount, and a category or a hyphen for none
abbrev pub part_of : Share → SplitPart
part_of share = record { amount = share.0; category = share.1 }

abbrev pub share_of : SplitPart → Share
share_of part = (part.amount, part.category)

-- `split`: a transaction, and its parts, one or more
abbrev pub split_words : Wanted
split_words = word (λ id. some_shares [] (λ shares. pair (Split id (map part_of shares))))

-- `transfer`: from which account, to which, the day, the amount, and what is noted of it
abbrev pub transfer_words : Wanted
transfer_words = word (λ from. word (λ to. date_word (λ date. amount_word (λ amount. word (λ notes. no_more (pair (Transfer from to date amount notes)))))))

-- an edit of rules, or of transactions by rules
abbrev pub rule : RuleEdit → Command
rule e = Edit (Rule e)

-- `rule-add`: an id or a hyphen for a new one, a stage, whether all conditions have to hold or one, the conditions and the actions
abbrev pub rule_add_words : Wanted
rule_add_words = id_word (λ id. stage_word (λ stage. op_word (λ op. word (λ conditions. word (λ actions. no_more (rule (RuleAdd id stage op conditions actions)))))))

-- `rule-delete`: a rule
abbrev pub rule_delete_words : Wanted
rule_delete_words = word (λ id. no_more (rule (RuleDelete id)))

-- `rules-run`: transactions, one or more
abbrev pub rules_run_words : Wanted
rules_run_words = some_texts [] (λ ids. rule (RulesRun ids))

-- an edit of a schedule
abbrev pub scheduling : ScheduleEdit → Command
scheduling e = Edit (OfSchedule e)

-- `schedule-add`: an id or a hyphen for a new one, a name, an account, a payee or a hyphen for none, an amount and a recurrence
abbrev pub schedule_add_words : Wanted
schedule_add_words = id_word (λ id. word (λ name. word (λ account. id_word (λ payee. amount_word (λ amount. word (λ recur. no_more (scheduling (Add id name account payee amount recur))))))))

-- the lines that go on with a schedule, or delete it: a schedule
abbrev pub schedule_post_words : Wanted
schedule_post_words = word (λ id. no_more (scheduling (Post id)))

abbrev pub schedule_skip_words : Wanted
schedule_skip_words = word (λ id. no_more (scheduling (Skip id)))

abbrev pub schedule_delete_words : Wanted
schedule_delete_words = word (λ id. no_more (scheduling (Delete id)))

-- `import`: an account and a statement
abbrev pub import_words : Wanted
import_words = word (λ account. word (λ statement. no_more (Edit (Import (record { account = account; statement = statement })))))

-- the lines that tell what the templates in notes get of a month, and that fill it by them: a month
abbrev pub goals_words : Wanted
goals_words = month_word (λ month. no_more (Goals month))

abbrev pub goals_apply_words : Wanted
goals_apply_words = month_word (λ month. no_more (Edit (GoalsApply month)))

-- the lines that ask of the tracking budget: a month, and the name of a cell
abbrev pub track_cell_words : Wanted
track_cell_words = month_word (λ month. word (λ name. no_more (TrackCell month name)))

abbrev pub track_sheet_words : Wanted
track_sheet_words = month_word (λ month. no_more (TrackSheet month))

-- `schedule-status`: a schedule and a day
abbrev pub schedule_status_words : Wanted
schedule_status_words = word (λ id. date_word (λ day. no_more (ScheduleStatus id day)))

-- the lines that take back the latest edit or the latest undo, and the one that syncs with the server: no word
abbrev pub undo_words : Wanted
undo_words = no_more Undo

abbrev pub redo_words : Wanted
redo_words = no_more Redo

abbrev pub sync_words : Wanted
sync_words = no_more Sync

-- a line: its name, and the words that it wants behind it
abbrev pub LineForm : Type 0
LineForm = List ℕ × Wanted

-- the words of the line with this name, or else these
abbrev pub words_in : List LineForm → List ℕ → Wanted → Wanted
words_in [] name others = others
words_in (line ∷ lines) name others = if bytes_eq name line.0 then line.1 else words_in lines name others

-- a transaction's change, behind which there is no word; and what each change wants behind the name of what is changed
abbrev pub change : TxChange → List ℕ → Wanted
change c id = no_more (pair (TxSet id c))

abbrev pub change_forms : List ℕ → List LineForm
change_forms id =
    (codes "date", date_word (λ date. change (Date date) id))
    ∷ (codes "amount", amount_word (λ amount. change (Amount amount) id))
    ∷ (codes "account", word (λ account. change (Account account) id))
    ∷ (codes "payee", id_word (λ payee. change (Payee payee) id))
    ∷ (codes "category", id_word (λ category. change (Category category) id))
    ∷ (codes "notes", word (λ notes. change (Notes notes) id))
    ∷ (codes "cleared", flag_word (λ cleared. change (Cleared cleared) id))
    ∷ (codes "schedule", id_word (λ schedule. change (Schedule schedule) id))
    ∷ []

-- `tx-set`: a transaction, which of its columns is changed, and what it gets
unfoldable pub change_words : List ℕ → List ℕ → Wanted
change_words id column = words_in (change_forms id) column misfit

abbrev pub tx_set_words : Wanted
tx_set_words = word (λ id. word (λ column. change_words id column))

-- the lines about messages and fields
abbrev pub field_lines : List LineForm
field_lines =
    (codes "set", set_words)
    ∷ (codes "receive", receive_words)
    ∷ (codes "fields", fields_words)
    ∷ (codes "messages", messages_words)
    ∷ (codes "value", value_words)
    ∷ (codes "trie", trie_words)
    ∷ []

-- the lines that give a row a name, a place or a note
abbrev pub row_lines : List LineForm
row_lines =
    (codes "account-rename", account_rename_words)
    ∷ (codes "group-rename", group_rename_words)
    ∷ (codes "category-rename", category_rename_words)
    ∷ (codes "payee-rename", payee_rename_words)
    ∷ (codes "category-move", category_move_words)
    ∷ (codes "note", note_words)
    ∷ []

-- the lines that open, close or delete rows
abbrev pub state_lines : List LineForm
state_lines =
    (codes "account-reopen", account_reopen_words)
    ∷ (codes "account-close", account_close_words)
    ∷ (codes "account-offbudget", account_offbudget_words)
    ∷ (codes "group-delete", group_delete_words)
    ∷ (codes "category-delete", category_delete_words)
    ∷ (codes "payee-delete", payee_delete_words)
    ∷ (codes "payee-merge", payee_merge_words)
    ∷ []

-- the lines that add a row
abbrev pub add_lines : List LineForm
add_lines =
    (codes "account-add", account_add_words)
    ∷ (codes "group-add", group_add_words)
    ∷ (codes "category-add", category_add_words)
    ∷ (codes "payee-add", payee_add_words)
    ∷ (codes "tx-add", tx_add_words)
    ∷ []

-- the lines that budget a month
abbrev pub month_lines : List LineForm
month_lines =
    (codes "budget", budget_words)
    ∷ (codes "carryover", carryover_words)
    ∷ (codes "hold", hold_words)
    ∷ (codes "move", move_amount_words)
    ∷ (codes "track", track_words)
    ∷ (codes "track-carryover", track_carryover_words)
    ∷ []

-- the lines that ask of the books
abbrev pub book_lines : List LineForm
book_lines =
    (codes "balance", balance_words)
    ∷ (codes "register", register_words)
    ∷ (codes "cell", cell_words)
    ∷ (codes "sheet", sheet_words)
    ∷ (codes "broken", broken_words)
    ∷ []

-- the lines that edit a transaction and those that hang together with it
abbrev pub pair_lines : List LineForm
pair_lines =
    (codes "tx-set", tx_set_words)
    ∷ (codes "tx-delete", tx_delete_words)
    ∷ (codes "split", split_words)
    ∷ (codes "transfer", transfer_words)
    ∷ []

-- the lines that edit rules, and transactions by rules
abbrev pub rule_lines : List LineForm
rule_lines =
    (codes "rule-add", rule_add_words)
    ∷ (codes "rule-delete", rule_delete_words)
    ∷ (codes "rules-run", rules_run_words)
    ∷ []

-- the lines about schedules
abbrev pub schedule_lines : List LineForm
schedule_lines =
    (codes "schedule-add", schedule_add_words)
    ∷ (codes "schedule-post", schedule_post_words)
    ∷ (codes "schedule-skip", schedule_skip_words)
    ∷ (codes "schedule-delete", schedule_delete_words)
    ∷ (codes "schedule-status", schedule_status_words)
    ∷ []

-- the line about statements
abbrev pub statement_lines : List LineForm
statement_lines = (codes "import", import_words) ∷ []

-- the lines about what a month is to have
abbrev pub plan_lines : List LineForm
plan_lines =
    (codes "goals", goals_words)
    ∷ (codes "goals-apply", goals_apply_words)
    ∷ (codes "track-cell", track_cell_words)
    ∷ (codes "track-sheet", track_sheet_words)
    ∷ []

-- the lines of a session
abbrev pub session_lines : List LineForm
session_lines =
    (codes "undo", undo_words)
    ∷ (codes "redo", redo_words)
    ∷ (codes "sync", sync_words)
    ∷ []

-- the words that a line with this name wants: those of a line about messages and fields, of the next kind, or of the one behind it
unfoldable pub words_of_session_lines : List ℕ → Wanted
words_of_session_lines name = words_in session_lines name misfit

unfoldable pub words_of_plan_lines : List ℕ → Wanted
words_of_plan_lines name = words_in plan_lines name (words_of_session_lines name)

unfoldable pub words_of_statement_lines : List ℕ → Wanted
words_of_statement_lines name = words_in statement_lines name (words_of_plan_lines name)

unfoldable pub words_of_schedule_lines : List ℕ → Wanted
words_of_schedule_lines name = words_in schedule_lines name (words_of_statement_lines name)

unfoldable pub words_of_rule_lines : List ℕ → Wanted
words_of_rule_lines name = words_in rule_lines name (words_of_schedule_lines name)

unfoldable pub words_of_pair_lines : List ℕ → Wanted
words_of_pair_lines name = words_in pair_lines name (words_of_rule_lines name)

unfoldable pub words_of_book_lines : List ℕ → Wanted
words_of_book_lines name = words_in book_lines name (words_of_pair_lines name)

unfoldable pub words_of_month_lines : List ℕ → Wanted
words_of_month_lines name = words_in month_lines name (words_of_book_lines name)

unfoldable pub words_of_add_lines : List ℕ → Wanted
words_of_add_lines name = words_in add_lines name (words_of_month_lines name)

unfoldable pub words_of_state_lines : List ℕ → Wanted
words_of_state_lines name = words_in state_lines name (words_of_add_lines name)

unfoldable pub words_of_row_lines : List ℕ → Wanted
words_of_row_lines name = words_in row_lines name (words_of_state_lines name)

abbrev pub line_words : List ℕ → Wanted
line_words name = words_in field_lines name (words_of_row_lines name)

-- the first word names the line
abbrev pub of_words : List (List ℕ) → Result Command ℕ
of_words [] = Err 0
of_words (name ∷ ws) = command_of (line_words name) 0 ws

-- the most bytes that a line may have
abbrev pub longest_line : ℕ
longest_line = 1_048_576

-- whether a line is too long
abbrev pub is_too_long : List ℕ → Bool
is_too_long line = nat_lt longest_line (length line)

-- the command of a line, or the index of the first of its words that is not of its form: 0 for a line that is too long
abbrev pub command : List ℕ → Result Command ℕ
command line = if is_too_long line then Err 0 else of_words (parts line)

-- memory ran out, or this is the index
abbrev pub IsCommandFault : Result Command ℕ → CommandFault → Type 0
IsCommandFault meant (BadCommand index) = meant ≡ Err index
IsCommandFault meant NoMemory = Unit {0}

-- memory ran out, or this is the command or the index
abbrev pub IsRead : Result Command ℕ → Result Command CommandFault → Type 0
IsRead meant (Ok found) = meant ≡ Ok found
IsRead meant (Err fault) = IsCommandFault meant fault

-- a command that the device can take as it stands: the values of its edit, or its message, are valid
abbrev pub IsCommand : Command → Type 0
IsCommand (Edit edit) = IsEdit edit
IsCommand (Receive message) = IsMessage message
IsCommand _ = Unit {0}

-- a command that holds a text, which takes memory
abbrev pub HoldsText : Command → Type 0
HoldsText Fields = ⊥
HoldsText Trie = ⊥
HoldsText (Sheet month) = ⊥
HoldsText Broken = ⊥
HoldsText (Goals month) = ⊥
HoldsText (TrackSheet month) = ⊥
HoldsText Undo = ⊥
HoldsText Redo = ⊥
HoldsText Sync = ⊥
HoldsText _ = Unit {0}
