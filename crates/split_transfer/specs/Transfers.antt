-- An amount goes from one account to another.
use Rattle.std.specs.Prelude.{ℕ, ℤ, pos, neg_ℤ, Bool, not, ◌&&◌, List, [], ◌∷◌, ◌++◌, Option, Result, Ok, codes}
use Rattle.std.specs.FinMap as map
use Rattle.field_values.specs.declared.value.Value.TheVariants.{Number, Text as IsText}
use Rattle.finite_sums.specs.Maps.{Text}
use Rattle.book_rows.specs.declared.rows.Rows.{Rows}
use Rattle.book_rows.specs.declared.rows.PayeeRow.{PayeeRow}
use Rattle.book_rows.specs.declared.write.RowName.TheVariants.{Made}
use Rattle.book_rows.specs.declared.write.WriteValue.TheVariants.{IdOf}
use Rattle.book_rows.specs.declared.write.Write.{Write}
use Rattle.book_rows.specs.declared.fault.EditFault.{EditFault}
use Rattle.book_rows.specs.Parts.{is_text}
use Rattle.book_edits.specs.Faults.{◌>>=◌}
use Rattle.book_edits.specs.Checks.{least_where, live_account, two_ids, a_day, an_amount}
use Rattle.book_edits.specs.Writing.{text_or_null, notes_value}
use Rattle.split_transfer.specs.Writing.{tx_write}

-- a live payee that stands for the account
abbrev pub stands_for : Text → PayeeRow → Bool
stands_for account p = not p.tombstone && is_text account p.transfer_acct

-- the payee that stands for an account: of those that do, the one with the least id
abbrev pub payee_for : Rows → Text → Option Text
payee_for rows account = least_where (stands_for account) (map.entries rows.payees)

-- one of the two rows, made by the write at this place: its payee stands for the other account, and it names the row that is made by
-- the write at the other place
abbrev pub half_writes : ℕ → Text → ℕ → ℤ → Option Text → Text → ℕ → List Write
half_writes at account date amount payee notes other =
    tx_write (Made at) (codes "acct") (IsText account)
    ∷ tx_write (Made at) (codes "date") (Number (pos date))
    ∷ tx_write (Made at) (codes "amount") (Number amount)
    ∷ tx_write (Made at) (codes "description") (text_or_null payee)
    ∷ tx_write (Made at) (codes "notes") (notes_value notes)
    ∷ record { dataset = codes "transactions"; row = Made at; column = codes "transferred_id"; value = IdOf other }
    ∷ []

abbrev pub transfer_writes : Rows → Text → Text → ℕ → ℤ → Text → List Write
transfer_writes rows from to date amount notes =
    half_writes 0 from date (neg_ℤ amount) (payee_for rows to) notes 6
    ++ half_writes 6 to date amount (payee_for rows from) notes 0

abbrev pub transfer : Rows → Text → Text → ℕ → ℤ → Text → Result (List Write) EditFault
transfer rows from to date amount notes = do
  _ ← live_account rows from
  _ ← live_account rows to
  _ ← two_ids from to
  _ ← a_day date
  _ ← an_amount amount
  Ok (transfer_writes rows from to date amount notes)
