-- The writes of edits.
use Rattle.std.specs.Prelude.{◌≢◌, List, [], ◌∷◌, Option, None, Some, Result, Ok, Err}
use Rattle.field_values.specs.declared.name.NameFault.{NameFault}
use Rattle.field_values.specs.declared.name.NameFault.TheVariants.{Empty, TooLong, BadByte, NoMemory as OutOfMemory}
use Rattle.field_values.specs.declared.value.Value.{Value}
use Rattle.field_values.specs.Names.{FieldNames, field_of, name_of, names_fault}
use Rattle.field_values.specs.Value.{IsValue}
use Rattle.book_rows.specs.declared.rows.Rows.{Rows}
use Rattle.book_rows.specs.declared.write.RowName.TheVariants.{Given}
use Rattle.book_rows.specs.declared.write.Write.{Write}
use Rattle.book_rows.specs.declared.fault.EditFault.{EditFault}
use Rattle.book_rows.specs.declared.fault.EditFault.TheVariants.{BadId, NoMemory}
use Rattle.book_edits.specs.declared.edit.BookEdit.{BookEdit}
use Rattle.book_edits.specs.declared.edit.BookEdit.TheVariants.{Set, AccountAdd, AccountRename, AccountOffbudget, AccountReopen, AccountClose, GroupAdd, GroupRename, GroupDelete, CategoryAdd, CategoryRename, CategoryMove, CategoryDelete, CategoryDeleteTo, PayeeAdd, PayeeRename, PayeeDelete, PayeeMerge, TxAdd, Budget, Carryover, Hold, Move, Track, TrackCarryover, Note}
use Rattle.book_edits.specs.Writing.{write}
use Rattle.book_edits.specs.Accounts.{account_add, account_rename, account_offbudget, account_reopen, account_close, payee_add, payee_rename, payee_delete}
use Rattle.book_edits.specs.Categories.{group_add, group_rename, group_delete, category_add, category_rename, category_move, category_delete}
use Rattle.book_edits.specs.Transactions.{tx_add, note}
use Rattle.book_edits.specs.Budgets.{budget, carryover, hold, move, track, track_carryover}
use Rattle.book_edits.specs.Mappings.{category_delete_to, payee_merge}

-- names with a fault refuse the edit: the name that the fault is about is told
abbrev pub bad_id : FieldNames → NameFault → EditFault
bad_id field (Empty part) = BadId (name_of part field)
bad_id field (TooLong part len) = BadId (name_of part field)
bad_id field (BadByte part at) = BadId (name_of part field)
bad_id field OutOfMemory = NoMemory

-- the one write of a value, unless the names have a fault
abbrev pub write_unless : Option NameFault → FieldNames → Value → Result (List Write) EditFault
write_unless None field value = Ok (write field.dataset (Given field.row) field.column value ∷ [])
write_unless (Some fault) field value = Err (bad_id field fault)

-- one field is written, unless one of its names is no name: then the first fault of its names refuses it
abbrev pub set_writes : FieldNames → Value → Result (List Write) EditFault
set_writes field value = write_unless (names_fault field) field value

-- the writes of an edit of a book with these rows, in the order in which they are made, or the first refusal
abbrev pub book_writes : Rows → BookEdit → Result (List Write) EditFault
book_writes rows (Set dataset row column value) = set_writes (field_of dataset row column) value
book_writes rows (AccountAdd id name offbudget) = account_add rows id name offbudget
book_writes rows (AccountRename id name) = account_rename rows id name
book_writes rows (AccountOffbudget id offbudget) = account_offbudget rows id offbudget
book_writes rows (AccountReopen id) = account_reopen rows id
book_writes rows (AccountClose id) = account_close rows id
book_writes rows (GroupAdd id name income) = group_add rows id name income
book_writes rows (GroupRename id name) = group_rename rows id name
book_writes rows (GroupDelete id) = group_delete rows id
book_writes rows (CategoryAdd id group name) = category_add rows id group name
book_writes rows (CategoryRename id name) = category_rename rows id name
book_writes rows (CategoryMove id group) = category_move rows id group
book_writes rows (CategoryDelete id) = category_delete rows id
book_writes rows (CategoryDeleteTo id to) = category_delete_to rows id to
book_writes rows (PayeeAdd id name) = payee_add rows id name
book_writes rows (PayeeRename id name) = payee_rename rows id name
book_writes rows (PayeeDelete id) = payee_delete rows id
book_writes rows (PayeeMerge to ids) = payee_merge rows to ids
book_writes rows (TxAdd id account date amount payee category notes) = tx_add rows id account date amount payee category notes
book_writes rows (Budget month category amount) = budget rows month category amount
book_writes rows (Carryover month category carries) = carryover rows month category carries
book_writes rows (Hold month amount) = hold month amount
book_writes rows (Move month from to amount) = move rows month from to amount
book_writes rows (Track month category amount) = track rows month category amount
book_writes rows (TrackCarryover month category carries) = track_carryover rows month category carries
book_writes rows (Note id text) = note id text

-- the values of an edit are valid
abbrev pub IsBookEdit : BookEdit → Type 0
IsBookEdit (Set dataset row column value) = IsValue value
IsBookEdit edit = Unit {0}

-- memory may be wanted before the edit is answered: a value for a field whose first bad name is the empty one is refused without
abbrev pub MayWantMemory : BookEdit → Type 0
MayWantMemory (Set dataset row column value) = set_writes (field_of dataset row column) value ≢ Err (BadId [])
MayWantMemory edit = Unit {0}
