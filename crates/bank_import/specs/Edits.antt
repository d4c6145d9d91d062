-- The writes of an import, or its first refusal.
use Rattle.std.specs.Prelude.{ℕ, ◌+◌, Bool, true, false, ◌||◌, List, [], ◌∷◌, ◌++◌, length, map, Option, Some, None, is_some, Result, Ok, if◌then◌else◌, codes}
use Rattle.std.specs.Option.{option_map}
use Rattle.std.specs.FinMap as finite
use Rattle.field_values.specs.declared.value.Value.TheVariants.{Number, Text as IsText}
use Rattle.finite_sums.specs.Maps.{Text}
use Rattle.book_rows.specs.declared.rows.Rows.{Rows}
use Rattle.book_rows.specs.declared.rows.TxRow.{TxRow}
use Rattle.book_rows.specs.declared.write.RowName.{RowName}
use Rattle.book_rows.specs.declared.write.RowName.TheVariants.{Given, Made}
use Rattle.book_rows.specs.declared.write.WriteValue.{WriteValue}
use Rattle.book_rows.specs.declared.write.WriteValue.TheVariants.{Plain, IdOf}
use Rattle.book_rows.specs.declared.write.Write.{Write}
use Rattle.book_rows.specs.declared.fault.EditFault.{EditFault}
use Rattle.book_edits.specs.Faults.{◌>>=◌}
use Rattle.book_edits.specs.Checks.{live_account}
use Rattle.book_edits.specs.Writing.{write, flag, text_or_null}
use Rattle.split_transfer.specs.Pairs.{partner_of}
use Rattle.split_transfer.specs.Writing.{tx_write, day_or_null}
use Rattle.rule_engine.specs.Conditions.{folded}
use Rattle.bank_import.specs.declared.edit.ImportEdit.{ImportEdit}
use Rattle.bank_import.specs.declared.entry.Entry.{Entry}
use Rattle.bank_import.specs.declared.drafts.Draft.{Draft}
use Rattle.bank_import.specs.Statement.{statement}
use Rattle.bank_import.specs.Matching.{matched}
use Rattle.bank_import.specs.Drafts.{draft_of, place_of, new_names}

-- ---- values that may be missing

-- the write of a value into a column of a transaction, if there is one
abbrev pub value_write : RowName → Text → Option WriteValue → List Write
value_write row column None = []
value_write row column (Some value) = record { dataset = codes "transactions"; row = row; column = column; value = value } ∷ []

abbrev pub text_write : RowName → Text → Option Text → List Write
text_write row column text = value_write row column (option_map (λ t. Plain (IsText t)) text)

-- what a record has where the transaction that it matches has nothing
abbrev pub missing : {A B : Type 0} → Option A → Option B → Option B
missing None new = new
missing (Some own) new = None

-- the payee that a record wants made, or else the one that it has
abbrev pub payee_by : List Text → Option Text → Option Text → Option WriteValue
payee_by names None own = option_map (λ id. Plain (IsText id)) own
payee_by names (Some name) own = option_map (λ at. IdOf at) (place_of names (folded name))

abbrev pub payee_value : List Text → Draft → Option WriteValue
payee_value names d = payee_by names d.wanted d.row.description

-- ---- one record

-- the transaction is split, or is in a pair: then it takes no category
abbrev pub takes_none : Rows → Text → TxRow → Bool
takes_none rows id x = x.is_parent || is_some (partner_of rows id x)

abbrev pub missing_category : Bool → Option Text → Option Text → Option Text
missing_category none own new = if none then None else missing own new

-- the writes of notes, of the payee as the statement has it, of its id there, and of a schedule, as far as they are there
abbrev pub texts_writes : RowName → Option Text → Option Text → Option Text → Option Text → List Write
texts_writes row notes imported id schedule =
    text_write row (codes "notes") notes
    ++ text_write row (codes "imported_description") imported
    ++ text_write row (codes "financial_id") id
    ++ text_write row (codes "schedule") schedule

-- that the bank has a transaction is written, unless it is known
abbrev pub clearing : RowName → Bool → List Write
clearing row known = if known then [] else tx_write row (codes "cleared") (flag true) ∷ []

-- what a record writes into the transaction that it matches: what is missing there, and that the bank has it
unfoldable pub filling : Rows → List Text → Text → TxRow → Draft → List Write
filling rows names id x d =
    value_write (Given id) (codes "description") (missing x.description (payee_value names d))
    ++ text_write (Given id) (codes "category") (missing_category (takes_none rows id x) x.category d.row.category)
    ++ texts_writes (Given id) (missing x.notes d.row.notes) (missing x.imported_description d.row.imported_description)
    (missing x.financial_id d.row.financial_id) (missing x.schedule d.row.schedule)
    ++ clearing (Given id) x.cleared

-- the account, the day and the amount of a transaction
abbrev pub entry_writes : RowName → TxRow → List Write
entry_writes row x =
    tx_write row (codes "acct") (text_or_null x.acct)
    ∷ tx_write row (codes "date") (day_or_null x.date)
    ∷ tx_write row (codes "amount") (Number x.amount)
    ∷ []

-- the row of a record that matches none, made by the write at this place: what it has, and that the bank has it, whatever rules say
unfoldable pub making : List Text → ℕ → Draft → List Write
making names at d =
    entry_writes (Made at) d.row
    ++ value_write (Made at) (codes "description") (payee_value names d)
    ++ text_write (Made at) (codes "category") d.row.category
    ++ texts_writes (Made at) d.row.notes d.row.imported_description d.row.financial_id d.row.schedule
    ++ clearing (Made at) false

abbrev pub filling_at : Rows → List Text → Text → Draft → Option TxRow → List Write
filling_at rows names id d None = []
filling_at rows names id d (Some x) = filling rows names id x d

abbrev pub record_writes : Rows → List Text → ℕ → Draft → Option Text → List Write
record_writes rows names at d None = making names at d
record_writes rows names at d (Some id) = filling_at rows names id d (finite.get rows.txs id)

-- ---- all records

-- a payee for each name, the first of them made by the write at this place
abbrev pub payee_writes : ℕ → List Text → List Write
payee_writes at [] = []
payee_writes at (name ∷ names) = write (codes "payees") (Made at) (codes "name") (IsText name) ∷ payee_writes (at + 1) names

-- the writes of records one after the other, the first of them at this place
abbrev pub records_writes : Rows → List Text → ℕ → List Draft → List (Option Text) → List Write
records_writes rows names at [] ms = []
records_writes rows names at (d ∷ ds) [] = []
records_writes rows names at (d ∷ ds) (m ∷ ms) =
    record_writes rows names at d m ++ records_writes rows names (at + length (record_writes rows names at d m)) ds ms

-- new payees first, then the records in order
abbrev pub drafts_writes : Rows → Text → List Draft → List Write
drafts_writes rows account ds =
    payee_writes 0 (new_names ds)
    ++ records_writes rows (new_names ds) (length (new_names ds)) ds (matched rows account (map (λ (d : Draft). d.row) ds))

abbrev pub entries_writes : Rows → Text → List Entry → List Write
entries_writes rows account es = drafts_writes rows account (map (draft_of rows account) es)

-- the writes of an import into a book with these rows, in the order in which they are made, or the first refusal
abbrev pub import_writes : Rows → ImportEdit → Result (List Write) EditFault
import_writes rows edit = do
  _ ← live_account rows edit.account
  es ← statement edit.statement
  Ok (entries_writes rows edit.account es)
