-- An edit that makes writes, and that they are valid.
use Rattle.std.proofs.Common.{◌≡◌, List, Ok, sym, ◌∙◌}
use Rattle.book_rows.specs.declared.rows.Rows.{Rows}
use Rattle.book_rows.specs.declared.write.Write.{Write}
use Rattle.book_rows.specs.Writes.{AreWrites}
use Rattle.book_edits.proofs.ValidWrites as books
use Rattle.split_transfer.proofs.ValidWrites as pairs
use Rattle.rule_engine.proofs.ValidWrites as rules
use Rattle.schedules.proofs.ValidWrites as schedules
use Rattle.schedules.proofs.Amounts.{terms_hold}
use Rattle.bank_import.proofs.Written.{import_valid}
use Rattle.bank_import.proofs.Numbers.{statement_numbers}
use Rattle.goal_templates.proofs.Naming.{goal_writes_valid}
use Rattle.field_merge.specs.declared.message.Message.{Message}
use Rattle.field_merge.specs.Messages.{AreMessages}
use Rattle.device_core.specs.Books.{rows_of}
use Rattle.device_core.proofs.RowsNamed.{rows_named}
use Rattle.device_core.proofs.RowsDated.{rows_dated}
use Rattle.book_edits.specs.declared.edit.BookEdit.TheVariants.{Set, AccountAdd, AccountRename, AccountOffbudget, AccountReopen, AccountClose, GroupAdd, GroupRename, GroupDelete, CategoryAdd, CategoryRename, CategoryMove, CategoryDelete, CategoryDeleteTo, PayeeAdd, PayeeRename, PayeeDelete, PayeeMerge, TxAdd, Budget, Carryover, Hold, Move, Track, TrackCarryover, Note}
use Rattle.device_core.specs.declared.edit.Edit.{Edit}
use Rattle.device_core.specs.declared.edit.Edit.TheVariants.{Book, Pair, Rule, Schedule, Import, GoalsApply}
use Rattle.device_core.specs.Edits.{writes_of, IsEdit, MayWantMemory}

-- memory may have been wanted
pub made_may : (rows : Rows) (edit : Edit) (ws : List Write) → writes_of rows edit ≡ Ok ws → MayWantMemory edit
made_may rows (Book (Set dataset row column value)) ws made = λ refused. let no = sym made ∙ refused in cc
made_may rows (Book (AccountAdd id name offbudget)) ws made = tt
made_may rows (Book (AccountRename id name)) ws made = tt
made_may rows (Book (AccountOffbudget id offbudget)) ws made = tt
made_may rows (Book (AccountReopen id)) ws made = tt
made_may rows (Book (AccountClose id)) ws made = tt
made_may rows (Book (GroupAdd id name income)) ws made = tt
made_may rows (Book (GroupRename id name)) ws made = tt
made_may rows (Book (GroupDelete id)) ws made = tt
made_may rows (Book (CategoryAdd id group name)) ws made = tt
made_may rows (Book (CategoryRename id name)) ws made = tt
made_may rows (Book (CategoryMove id group)) ws made = tt
made_may rows (Book (CategoryDelete id)) ws made = tt
made_may rows (Book (CategoryDeleteTo id to)) ws made = tt
made_may rows (Book (PayeeAdd id name)) ws made = tt
made_may rows (Book (PayeeRename id name)) ws made = tt
made_may rows (Book (PayeeDelete id)) ws made = tt
made_may rows (Book (PayeeMerge to ids)) ws made = tt
made_may rows (Book (TxAdd id account date amount payee category notes)) ws made = tt
made_may rows (Book (Budget month category amount)) ws made = tt
made_may rows (Book (Carryover month category carries)) ws made = tt
made_may rows (Book (Hold month amount)) ws made = tt
made_may rows (Book (Move month from to amount)) ws made = tt
made_may rows (Book (Track month category amount)) ws made = tt
made_may rows (Book (TrackCarryover month category carries)) ws made = tt
made_may rows (Book (Note id text)) ws made = tt
made_may rows (Pair edit) ws made = tt
made_may rows (Rule edit) ws made = tt
made_may rows (Schedule edit) ws made = tt
made_may rows (Import edit) ws made = tt
made_may rows (GoalsApply month) ws made = tt

-- the writes of an edit in the book of valid messages
pub writes_valid : (ms : List Message) (edit : Edit) (ws : List Write) → AreMessages ms → IsEdit edit → writes_of (rows_of ms) edit ≡ Ok ws → AreWrites ws
writes_valid ms (Book edit) ws are is h = books.writes_valid (rows_of ms) (rows_named ms are) edit ws is h
writes_valid ms (Pair edit) ws are is h = pairs.writes_valid (rows_of ms) (rows_named ms are) edit ws (rows_dated ms edit) h
writes_valid ms (Rule edit) ws are is h = rules.writes_valid (rows_of ms) (rows_named ms are) edit ws h
writes_valid ms (Schedule edit) ws are is h = schedules.writes_valid (rows_of ms) (rows_named ms are) edit ws (terms_hold (rows_of ms)) h
writes_valid ms (Import edit) ws are is h = import_valid (rows_of ms) (rows_named ms are) edit ws (statement_numbers edit.statement) h
writes_valid ms (GoalsApply month) ws are is h = goal_writes_valid (rows_of ms) month ws h
