-- New transactions, and notes.
use Rattle.std.specs.Prelude.{ℕ, ℤ, pos, Bool, List, [], ◌∷◌, Option, is_some, Result, Ok, codes}
use Rattle.std.specs.FinMap as map
use Rattle.field_values.specs.declared.value.Value.TheVariants.{Number, Text as IsText}
use Rattle.finite_sums.specs.Maps.{Text}
use Rattle.book_rows.specs.declared.rows.Rows.{Rows}
use Rattle.book_rows.specs.declared.write.RowName.{RowName}
use Rattle.book_rows.specs.declared.write.RowName.TheVariants.{Given}
use Rattle.book_rows.specs.declared.write.Write.{Write}
use Rattle.book_rows.specs.declared.fault.EditFault.{EditFault}
use Rattle.book_edits.specs.Faults.{◌>>=◌, if_there}
use Rattle.book_edits.specs.Checks.{new_row, live_account, live_payee, live_category, a_day, an_amount, a_name}
use Rattle.book_edits.specs.Writing.{write, text_or_null, notes_value}

-- there is a row of the id, dead or alive
abbrev pub is_tx : Rows → Text → Bool
is_tx rows id = is_some (map.get rows.txs id)

-- a new transaction
abbrev pub tx_writes : RowName → Text → ℕ → ℤ → Option Text → Option Text → Text → List Write
tx_writes row account date amount payee category notes =
    write (codes "transactions") row (codes "acct") (IsText account)
    ∷ write (codes "transactions") row (codes "date") (Number (pos date))
    ∷ write (codes "transactions") row (codes "amount") (Number amount)
    ∷ write (codes "transactions") row (codes "description") (text_or_null payee)
    ∷ write (codes "transactions") row (codes "category") (text_or_null category)
    ∷ write (codes "transactions") row (codes "notes") (notes_value notes)
    ∷ []

abbrev pub tx_add : Rows → Option Text → Text → ℕ → ℤ → Option Text → Option Text → Text → Result (List Write) EditFault
tx_add rows id account date amount payee category notes = do
  row ← new_row (is_tx rows) id
  _ ← live_account rows account
  _ ← a_day date
  _ ← an_amount amount
  _ ← if_there (live_payee rows) payee
  _ ← if_there (live_category rows) category
  Ok (tx_writes row account date amount payee category notes)

-- an id that is noted under only has to be a name
abbrev pub note : Text → Text → Result (List Write) EditFault
note id text = do
  _ ← a_name id
  Ok (write (codes "notes") (Given id) (codes "note") (IsText text) ∷ [])
