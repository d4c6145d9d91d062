-- A column of a transaction is changed, or it is deleted.
use Rattle.std.specs.Prelude.{ℕ, ℤ, pos, neg_ℤ, Bool, true, List, [], ◌∷◌, ◌++◌, Option, option_to_list, Result, Ok, codes}
use Rattle.field_values.specs.declared.value.Value.TheVariants.{Number, Text as IsText}
use Rattle.finite_sums.specs.Maps.{Text}
use Rattle.book_rows.specs.declared.rows.Rows.{Rows}
use Rattle.book_rows.specs.declared.write.RowName.TheVariants.{Given}
use Rattle.book_rows.specs.declared.write.Write.{Write}
use Rattle.book_rows.specs.declared.fault.EditFault.{EditFault}
use Rattle.book_edits.specs.Faults.{◌>>=◌, if_there}
use Rattle.book_edits.specs.Checks.{a_day, an_amount, live_account, live_payee}
use Rattle.book_edits.specs.Writing.{flag, text_or_null, notes_value}
use Rattle.split_transfer.specs.declared.edit.TxChange.{TxChange}
use Rattle.split_transfer.specs.declared.edit.TxChange.TheVariants.{Date, Amount, Account, Payee, Category, Notes, Cleared, Schedule}
use Rattle.split_transfer.specs.Pairs.{partner_of, parts_of}
use Rattle.split_transfer.specs.Checks.{live_tx, live_schedule, no_child, no_pair, takes_category, stays_even}
use Rattle.split_transfer.specs.Writing.{tx_write, on_each}

-- the day of a transaction is that of its parts and of its partner
abbrev pub set_date : Rows → Text → ℕ → Result (List Write) EditFault
set_date rows id date = do
  x ← live_tx rows id
  _ ← no_child id x
  _ ← a_day date
  Ok (on_each (codes "date") (Number (pos date)) (id ∷ parts_of rows id ++ option_to_list (partner_of rows id x)))

-- what the partner has is the opposite
abbrev pub set_amount : Rows → Text → ℤ → Result (List Write) EditFault
set_amount rows id amount = do
  x ← live_tx rows id
  _ ← no_child id x
  _ ← an_amount amount
  _ ← stays_even rows id x amount
  Ok (tx_write (Given id) (codes "amount") (Number amount) ∷ on_each (codes "amount") (Number (neg_ℤ amount)) (option_to_list (partner_of rows id x)))

-- the parts are of the same account
abbrev pub set_account : Rows → Text → Text → Result (List Write) EditFault
set_account rows id account = do
  x ← live_tx rows id
  _ ← no_child id x
  _ ← no_pair rows id x
  _ ← live_account rows account
  Ok (on_each (codes "acct") (IsText account) (id ∷ parts_of rows id))

abbrev pub set_payee : Rows → Text → Option Text → Result (List Write) EditFault
set_payee rows id payee = do
  x ← live_tx rows id
  _ ← no_child id x
  _ ← no_pair rows id x
  _ ← if_there (live_payee rows) payee
  Ok (on_each (codes "description") (text_or_null payee) (id ∷ []))

abbrev pub set_category : Rows → Text → Option Text → Result (List Write) EditFault
set_category rows id category = do
  x ← live_tx rows id
  _ ← takes_category rows id x category
  Ok (on_each (codes "category") (text_or_null category) (id ∷ []))

abbrev pub set_notes : Rows → Text → Text → Result (List Write) EditFault
set_notes rows id notes = do
  x ← live_tx rows id
  Ok (on_each (codes "notes") (notes_value notes) (id ∷ []))

abbrev pub set_cleared : Rows → Text → Bool → Result (List Write) EditFault
set_cleared rows id cleared = do
  x ← live_tx rows id
  Ok (on_each (codes "cleared") (flag cleared) (id ∷ []))

abbrev pub set_schedule : Rows → Text → Option Text → Result (List Write) EditFault
set_schedule rows id schedule = do
  x ← live_tx rows id
  _ ← if_there (live_schedule rows) schedule
  Ok (on_each (codes "schedule") (text_or_null schedule) (id ∷ []))

-- a column of a transaction is changed
abbrev pub tx_set : Rows → Text → TxChange → Result (List Write) EditFault
tx_set rows id (Date date) = set_date rows id date
tx_set rows id (Amount amount) = set_amount rows id amount
tx_set rows id (Account account) = set_account rows id account
tx_set rows id (Payee payee) = set_payee rows id payee
tx_set rows id (Category category) = set_category rows id category
tx_set rows id (Notes notes) = set_notes rows id notes
tx_set rows id (Cleared cleared) = set_cleared rows id cleared
tx_set rows id (Schedule schedule) = set_schedule rows id schedule

-- a transaction is deleted, and its partner with it. Its parts are not written: they are live no longer
abbrev pub tx_delete : Rows → Text → Result (List Write) EditFault
tx_delete rows id = do
  x ← live_tx rows id
  _ ← no_child id x
  Ok (on_each (codes "tombstone") (flag true) (id ∷ option_to_list (partner_of rows id x)))
