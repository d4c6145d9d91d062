-- How a command is written as a line, that the line reads back, and that a line that was read is written back.
use Rattle.std.specs.Prelude.{◌≡◌, ◌≢◌, ◌≤◌, ◌<◌, ℕ, ◌/◌, List, [], ◌∷◌, ◌++◌, ◌↔◌, length, codes, ℤ, Bool, true, false, Option, Some, Ok}
use Rattle.std.specs.List.{flat_map, AllByRecursion}
use Rattle.field_values.specs.Value.{value_text}
use Rattle.field_merge.specs.declared.message.Message.{Message}
use Rattle.field_merge.specs.Escapes.{raw_escaped}
use Rattle.field_merge.specs.Lines.{reading}
use Rattle.field_merge.specs.Messages.{message_texts, line_of_texts}
use Rattle.device_core.specs.declared.edit.Edit.TheVariants.{Book, Pair, Rule, Schedule as OfSchedule, Import, GoalsApply}
use Rattle.book_edits.specs.declared.edit.BookEdit.{BookEdit}
use Rattle.book_edits.specs.declared.edit.BookEdit.TheVariants.{Set, AccountAdd, AccountRename, AccountOffbudget, AccountReopen, AccountClose, GroupAdd, GroupRename, GroupDelete, CategoryAdd, CategoryRename, CategoryMove, CategoryDelete, CategoryDeleteTo, PayeeAdd, PayeeRename, PayeeDelete, PayeeMerge, TxAdd, Budget, Carryover, Hold, Move, Track, TrackCarryover, Note}
use Rattle.split_transfer.specs.declared.edit.PairEdit.{PairEdit}
use Rattle.split_transfer.specs.declared.edit.PairEdit.TheVariants.{TxSet, TxDelete, Split, Transfer}
use Rattle.split_transfer.specs.declared.edit.TxChange.{TxChange}
use Rattle.split_transfer.specs.declared.edit.TxChange.TheVariants.{Date, Amount, Account, Payee, Category, Notes, Cleared, Schedule}
use Rattle.split_transfer.specs.declared.edit.SplitPart.{SplitPart}
use Rattle.rule_engine.specs.declared.rule.Stage.{Stage}
use Rattle.rule_engine.specs.declared.rule.Stage.TheVariants.{Pre, Plain, Post as PostStage}
use Rattle.rule_engine.specs.declared.edit.RuleEdit.{RuleEdit}
use Rattle.rule_engine.specs.declared.edit.RuleEdit.TheVariants.{RuleAdd, RuleDelete, RulesRun}
use Rattle.rule_engine.specs.Edits.{op_text}
use Rattle.schedules.specs.declared.edit.ScheduleEdit.{ScheduleEdit}
use Rattle.schedules.specs.declared.edit.ScheduleEdit.TheVariants.{Add, Post, Skip, Delete}
use Rattle.std.specs.Fmt.{signed_decimal}
use Rattle.book_rows.specs.Ids.{four_digits, month_id}
use Rattle.command_lines.specs.Forms.{is_amount}
use Rattle.command_lines.specs.FormLaws.{id_text}
use Rattle.command_lines.specs.declared.command.Command.{Command}
use Rattle.command_lines.specs.declared.command.Command.TheVariants.{Edit, Undo, Redo, Receive, Fields, Messages, Value, Trie, Balance, Register, Cell, Sheet, Broken, ScheduleStatus, Goals, TrackCell, TrackSheet, Sync}
use Rattle.command_lines.specs.Commands.{command, longest_line, IsCommand}

-- how a flag is written, a number YYYYMMDD and a number YYYYMM
abbrev pub flag_text : Bool → List ℕ
flag_text true = codes "1"
flag_text false = codes "0"

abbrev pub date_text : ℕ → List ℕ
date_text n = four_digits (n / 10000) ++ four_digits n

abbrev pub month_text : ℕ → List ℕ
month_text n = month_id n

-- the name of an edit's line and its words, each as a text
abbrev pub edit_texts : BookEdit → List (List ℕ)
edit_texts (Set dataset row column value) = codes "set" ∷ dataset ∷ row ∷ column ∷ value_text value ∷ []
edit_texts (AccountAdd id name off) = codes "account-add" ∷ id_text id ∷ name ∷ flag_text off ∷ []
edit_texts (AccountRename id name) = codes "account-rename" ∷ id ∷ name ∷ []
edit_texts (AccountOffbudget id off) = codes "account-offbudget" ∷ id ∷ flag_text off ∷ []
edit_texts (AccountReopen id) = codes "account-reopen" ∷ id ∷ []
edit_texts (AccountClose id) = codes "account-close" ∷ id ∷ []
edit_texts (GroupAdd id name income) = codes "group-add" ∷ id_text id ∷ name ∷ flag_text income ∷ []
edit_texts (GroupRename id name) = codes "group-rename" ∷ id ∷ name ∷ []
edit_texts (GroupDelete id) = codes "group-delete" ∷ id ∷ []
edit_texts (CategoryAdd id group name) = codes "category-add" ∷ id_text id ∷ group ∷ name ∷ []
edit_texts (CategoryRename id name) = codes "category-rename" ∷ id ∷ name ∷ []
edit_texts (CategoryMove id group) = codes "category-move" ∷ id ∷ group ∷ []
edit_texts (CategoryDelete id) = codes "category-delete" ∷ id ∷ []
edit_texts (CategoryDeleteTo id to) = codes "category-delete" ∷ id ∷ to ∷ []
edit_texts (PayeeAdd id name) = codes "payee-add" ∷ id_text id ∷ name ∷ []
edit_texts (PayeeRename id name) = codes "payee-rename" ∷ id ∷ name ∷ []
edit_texts (PayeeDelete id) = codes "payee-delete" ∷ id ∷ []
edit_texts (PayeeMerge to ids) = codes "payee-merge" ∷ to ∷ ids
edit_texts (TxAdd id account date amount payee category notes) =
    codes "tx-add" ∷ id_text id ∷ account ∷ date_text date ∷ signed_decimal amount ∷ id_text payee ∷ id_text category ∷ notes ∷ []
edit_texts (Budget month category amount) = codes "budget" ∷ month_text month ∷ category ∷ signed_decimal amount ∷ []
edit_texts (Carryover month category carries) = codes "carryover" ∷ month_text month ∷ category ∷ flag_text carries ∷ []
edit_texts (Hold month amount) = codes "hold" ∷ month_text month ∷ signed_decimal amount ∷ []
edit_texts (Move month from to amount) = codes "move" ∷ month_text month ∷ from ∷ to ∷ signed_decimal amount ∷ []
edit_texts (Track month category amount) = codes "track" ∷ month_text month ∷ category ∷ signed_decimal amount ∷ []
edit_texts (TrackCarryover month category carries) = codes "track-carryover" ∷ month_text month ∷ category ∷ flag_text carries ∷ []
edit_texts (Note id text) = codes "note" ∷ id ∷ text ∷ []

-- what is changed of a transaction, and what it gets
abbrev pub change_texts : TxChange → List (List ℕ)
change_texts (Date date) = codes "date" ∷ date_text date ∷ []
change_texts (Amount amount) = codes "amount" ∷ signed_decimal amount ∷ []
change_texts (Account account) = codes "account" ∷ account ∷ []
change_texts (Payee payee) = codes "payee" ∷ id_text payee ∷ []
change_texts (Category category) = codes "category" ∷ id_text category ∷ []
change_texts (Notes notes) = codes "notes" ∷ notes ∷ []
change_texts (Cleared cleared) = codes "cleared" ∷ flag_text cleared ∷ []
change_texts (Schedule schedule) = codes "schedule" ∷ id_text schedule ∷ []

-- the two words of a part of a split
abbrev pub part_texts : SplitPart → List (List ℕ)
part_texts part = signed_decimal part.amount ∷ id_text part.category ∷ []

abbrev pub pair_texts : PairEdit → List (List ℕ)
pair_texts (TxSet id change) = codes "tx-set" ∷ id ∷ change_texts change
pair_texts (TxDelete id) = codes "tx-delete" ∷ id ∷ []
pair_texts (Split id parts) = codes "split" ∷ id ∷ flat_map part_texts parts
pair_texts (Transfer from to date amount notes) = codes "transfer" ∷ from ∷ to ∷ date_text date ∷ signed_decimal amount ∷ notes ∷ []

-- the word for a stage; that for how many conditions have to hold is the one that the rule's row gets
abbrev pub stage_text : Stage → List ℕ
stage_text Pre = codes "pre"
stage_text Plain = codes "none"
stage_text PostStage = codes "post"

abbrev pub rule_texts : RuleEdit → List (List ℕ)
rule_texts (RuleAdd id stage op conditions actions) = codes "rule-add" ∷ id_text id ∷ stage_text stage ∷ op_text op ∷ conditions ∷ actions ∷ []
rule_texts (RuleDelete id) = codes "rule-delete" ∷ id ∷ []
rule_texts (RulesRun ids) = codes "rules-run" ∷ ids

abbrev pub schedule_texts : ScheduleEdit → List (List ℕ)
schedule_texts (Add id name account payee amount recur) =
    codes "schedule-add" ∷ id_text id ∷ name ∷ account ∷ id_text payee ∷ signed_decimal amount ∷ recur ∷ []
schedule_texts (Post id) = codes "schedule-post" ∷ id ∷ []
schedule_texts (Skip id) = codes "schedule-skip" ∷ id ∷ []
schedule_texts (Delete id) = codes "schedule-delete" ∷ id ∷ []

-- an id that is given is no hyphen, a date has eight digits at most and a month six, and an amount has 64 bits
abbrev pub IsGiven : Option (List ℕ) → Type 0
IsGiven id = id ≢ Some (codes "-")

abbrev pub HasEight : ℕ → Type 0
HasEight n = n < 100_000_000

abbrev pub HasSix : ℕ → Type 0
HasSix n = n < 1_000_000

abbrev pub Has64Bits : ℤ → Type 0
Has64Bits n = is_amount n ≡ true

-- the words of an edit's line can write what it holds. A payee, or several, are merged
abbrev pub CanWriteEdit : BookEdit → Type 0
CanWriteEdit (AccountAdd id name off) = IsGiven id
CanWriteEdit (GroupAdd id name income) = IsGiven id
CanWriteEdit (CategoryAdd id group name) = IsGiven id
CanWriteEdit (PayeeAdd id name) = IsGiven id
CanWriteEdit (PayeeMerge to ids) = ids ≢ []
CanWriteEdit (TxAdd id account date amount payee category notes) = IsGiven id × HasEight date × Has64Bits amount × IsGiven payee × IsGiven category
CanWriteEdit (Budget month category amount) = HasSix month × Has64Bits amount
CanWriteEdit (Carryover month category carries) = HasSix month
CanWriteEdit (Hold month amount) = HasSix month × Has64Bits amount
CanWriteEdit (Move month from to amount) = HasSix month × Has64Bits amount
CanWriteEdit (Track month category amount) = HasSix month × Has64Bits amount
CanWriteEdit (TrackCarryover month category carries) = HasSix month
CanWriteEdit other = Unit {0}

abbrev pub CanWriteChange : TxChange → Type 0
CanWriteChange (Date date) = HasEight date
CanWriteChange (Amount amount) = Has64Bits amount
CanWriteChange (Payee payee) = IsGiven payee
CanWriteChange (Category category) = IsGiven category
CanWriteChange (Schedule schedule) = IsGiven schedule
CanWriteChange other = Unit {0}

abbrev pub CanWritePart : SplitPart → Type 0
CanWritePart part = Has64Bits part.amount × IsGiven part.category

-- a split has a part
abbrev pub CanWritePair : PairEdit → Type 0
CanWritePair (TxSet id change) = CanWriteChange change
CanWritePair (TxDelete id) = Unit {0}
CanWritePair (Split id parts) = (parts ≢ []) × AllByRecursion CanWritePart parts
CanWritePair (Transfer from to date amount notes) = HasEight date × Has64Bits amount

-- rules run on a transaction, or on several
abbrev pub CanWriteRule : RuleEdit → Type 0
CanWriteRule (RuleAdd id stage op conditions actions) = IsGiven id
CanWriteRule (RuleDelete id) = Unit {0}
CanWriteRule (RulesRun ids) = ids ≢ []

abbrev pub CanWriteSchedule : ScheduleEdit → Type 0
CanWriteSchedule (Add id name account payee amount recur) = IsGiven id × IsGiven payee × Has64Bits amount
CanWriteSchedule other = Unit {0}

-- the words of a line can write what the command holds
abbrev pub CanBeWritten : Command → Type 0
CanBeWritten (Edit (Book edit)) = CanWriteEdit edit
CanBeWritten (Edit (Pair edit)) = CanWritePair edit
CanBeWritten (Edit (Rule edit)) = CanWriteRule edit
CanBeWritten (Edit (OfSchedule edit)) = CanWriteSchedule edit
CanBeWritten (Edit (GoalsApply month)) = HasSix month
CanBeWritten (Cell month name) = HasSix month
CanBeWritten (Sheet month) = HasSix month
CanBeWritten (ScheduleStatus id day) = HasEight day
CanBeWritten (Goals month) = HasSix month
CanBeWritten (TrackCell month name) = HasSix month
CanBeWritten (TrackSheet month) = HasSix month
CanBeWritten other = Unit {0}

-- the name of a command and its words, each as a text
abbrev pub command_texts : Command → List (List ℕ)
command_texts (Edit (Book edit)) = edit_texts edit
command_texts (Edit (Pair edit)) = pair_texts edit
command_texts (Edit (Rule edit)) = rule_texts edit
command_texts (Edit (OfSchedule edit)) = schedule_texts edit
command_texts (Edit (Import edit)) = codes "import" ∷ edit.account ∷ edit.statement ∷ []
command_texts (Edit (GoalsApply month)) = codes "goals-apply" ∷ month_text month ∷ []
command_texts Undo = codes "undo" ∷ []
command_texts Redo = codes "redo" ∷ []
command_texts (Receive message) = codes "receive" ∷ message_texts message
command_texts Fields = codes "fields" ∷ []
command_texts (Messages since) = codes "messages" ∷ since ∷ []
command_texts (Value dataset row column) = codes "value" ∷ dataset ∷ row ∷ column ∷ []
command_texts Trie = codes "trie" ∷ []
command_texts (Balance account) = codes "balance" ∷ account ∷ []
command_texts (Register account) = codes "register" ∷ account ∷ []
command_texts (Cell month name) = codes "cell" ∷ month_text month ∷ name ∷ []
command_texts (Sheet month) = codes "sheet" ∷ month_text month ∷ []
command_texts Broken = codes "broken" ∷ []
command_texts (ScheduleStatus id day) = codes "schedule-status" ∷ id ∷ date_text day ∷ []
command_texts (Goals month) = codes "goals" ∷ month_text month ∷ []
command_texts (TrackCell month name) = codes "track-cell" ∷ month_text month ∷ name ∷ []
command_texts (TrackSheet month) = codes "track-sheet" ∷ month_text month ∷ []
command_texts Sync = codes "sync" ∷ []

-- the line of a command
abbrev pub command_line : Command → List ℕ
command_line c = line_of_texts (command_texts c)

-- the line of a message behind the name `receive`
abbrev pub receive_line : List ℕ → List ℕ
receive_line line = codes "receive" ++ 9 ∷ line

-- a line behind `receive`, where the whole is not too long, is the command to receive a message exactly where the line is read as that message
abbrev pub ReceivesMessageLines : Type 0
ReceivesMessageLines = (line : List ℕ) (m : Message) → length (receive_line line) ≤ longest_line →
    ((command (receive_line line) ≡ Ok (Receive m)) ↔ (reading line ≡ Ok m))

-- the line of a command whose words can be written, where it is not too long, is read as the command
abbrev pub CommandsReadBack : Type 0
CommandsReadBack = (c : Command) → IsCommand c → CanBeWritten c → length (command_line c) ≤ longest_line → command (command_line c) ≡ Ok c

-- what a line is read as is a valid command whose words can be written, and the line is that of the command, but for the bytes 0 and LF that stand in it without their escape
abbrev pub LinesWriteBack : Type 0
LinesWriteBack = (line : List ℕ) (c : Command) → command line ≡ Ok c → IsCommand c × CanBeWritten c × (command_line c ≡ flat_map raw_escaped line)
