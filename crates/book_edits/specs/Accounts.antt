-- Edits of accounts and payees.
use Rattle.std.specs.Prelude.{Bool, true, false, List, [], ◌∷◌, Option, is_some, Result, Ok, codes}
use Rattle.std.specs.FinMap as map
use Rattle.field_values.specs.declared.value.Value.TheVariants.{Text as IsText}
use Rattle.finite_sums.specs.Maps.{Text}
use Rattle.book_rows.specs.declared.rows.Rows.{Rows}
use Rattle.book_rows.specs.declared.write.RowName.{RowName}
use Rattle.book_rows.specs.declared.write.RowName.TheVariants.{Given, Made}
use Rattle.book_rows.specs.declared.write.Write.{Write}
use Rattle.book_rows.specs.declared.fault.EditFault.{EditFault}
use Rattle.book_edits.specs.Faults.{◌>>=◌}
use Rattle.book_edits.specs.Checks.{new_row, live_account, live_payee, without_balance}
use Rattle.book_edits.specs.Writing.{write, flag, id_value}

-- there is a row of the id, dead or alive
abbrev pub is_account : Rows → Text → Bool
is_account rows id = is_some (map.get rows.accounts id)

abbrev pub is_payee : Rows → Text → Bool
is_payee rows id = is_some (map.get rows.payees id)

-- a new account, and a payee with the empty name that stands for it in transfers
abbrev pub account_writes : RowName → Text → Bool → List Write
account_writes row name offbudget =
    write (codes "accounts") row (codes "name") (IsText name)
    ∷ write (codes "accounts") row (codes "offbudget") (flag offbudget)
    ∷ write (codes "payees") (Made 2) (codes "name") (IsText [])
    ∷ record { dataset = codes "payees"; row = Made 2; column = codes "transfer_acct"; value = id_value row }
    ∷ []

abbrev pub account_add : Rows → Option Text → Text → Bool → Result (List Write) EditFault
account_add rows id name offbudget = do
  row ← new_row (is_account rows) id
  Ok (account_writes row name offbudget)

abbrev pub account_rename : Rows → Text → Text → Result (List Write) EditFault
account_rename rows id name = do
  _ ← live_account rows id
  Ok (write (codes "accounts") (Given id) (codes "name") (IsText name) ∷ [])

abbrev pub account_offbudget : Rows → Text → Bool → Result (List Write) EditFault
account_offbudget rows id offbudget = do
  _ ← live_account rows id
  Ok (write (codes "accounts") (Given id) (codes "offbudget") (flag offbudget) ∷ [])

abbrev pub account_reopen : Rows → Text → Result (List Write) EditFault
account_reopen rows id = do
  _ ← live_account rows id
  Ok (write (codes "accounts") (Given id) (codes "closed") (flag false) ∷ [])

abbrev pub account_close : Rows → Text → Result (List Write) EditFault
account_close rows id = do
  _ ← live_account rows id
  _ ← without_balance rows id
  Ok (write (codes "accounts") (Given id) (codes "closed") (flag true) ∷ [])

abbrev pub payee_add : Rows → Option Text → Text → Result (List Write) EditFault
payee_add rows id name = do
  row ← new_row (is_payee rows) id
  Ok (write (codes "payees") row (codes "name") (IsText name) ∷ [])

abbrev pub payee_rename : Rows → Text → Text → Result (List Write) EditFault
payee_rename rows id name = do
  _ ← live_payee rows id
  Ok (write (codes "payees") (Given id) (codes "name") (IsText name) ∷ [])

-- a payee is deleted
abbrev pub payee_deletion : Text → Write
payee_deletion id = write (codes "payees") (Given id) (codes "tombstone") (flag true)

abbrev pub payee_delete : Rows → Text → Result (List Write) EditFault
payee_delete rows id = do
  _ ← live_payee rows id
  Ok (payee_deletion id ∷ [])
