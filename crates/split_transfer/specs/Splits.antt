-- A transaction is split.
use Rattle.std.specs.Prelude.{◌≡◌, ℕ, pos, Some, ◌+◌, ◌-ℤ◌, true, List, [], ◌∷◌, ◌++◌, length, Result, Ok, codes}
use Rattle.field_values.specs.declared.value.Value.TheVariants.{Null, Number, Text as IsText}
use Rattle.field_values.specs.Value.{HoldsNumber}
use Rattle.finite_sums.specs.Sums.{total}
use Rattle.finite_sums.specs.Maps.{Text}
use Rattle.book_rows.specs.declared.rows.Rows.{Rows}
use Rattle.book_rows.specs.declared.rows.TxRow.{TxRow}
use Rattle.book_rows.specs.declared.write.RowName.TheVariants.{Given, Made}
use Rattle.book_rows.specs.declared.write.Write.{Write}
use Rattle.book_rows.specs.declared.fault.EditFault.{EditFault}
use Rattle.book_edits.specs.Faults.{◌>>=◌, if_there, each}
use Rattle.book_edits.specs.Checks.{an_amount, live_category}
use Rattle.book_edits.specs.Writing.{flag, text_or_null}
use Rattle.split_transfer.specs.declared.edit.SplitPart.{SplitPart}
use Rattle.split_transfer.specs.Pairs.{parts_of}
use Rattle.split_transfer.specs.Checks.{live_tx, no_child, no_pair, no_rest}
use Rattle.split_transfer.specs.Writing.{tx_write, on_each, day_or_null}

-- the row of a part, made by the write at this place: it has the account, the day and the payee of what is split
abbrev pub part_writes : ℕ → Text → TxRow → SplitPart → List Write
part_writes at id x part =
    tx_write (Made at) (codes "acct") (text_or_null x.acct)
    ∷ tx_write (Made at) (codes "date") (day_or_null x.date)
    ∷ tx_write (Made at) (codes "amount") (Number part.amount)
    ∷ tx_write (Made at) (codes "category") (text_or_null part.category)
    ∷ tx_write (Made at) (codes "description") (text_or_null x.description)
    ∷ tx_write (Made at) (codes "isChild") (flag true)
    ∷ tx_write (Made at) (codes "parent_id") (IsText id)
    ∷ []

-- one row for each part, the first of them made by the write at this place
abbrev pub parts_writes : ℕ → Text → TxRow → List SplitPart → List Write
parts_writes at id x [] = []
parts_writes at id x (part ∷ parts) = part_writes at id x part ++ parts_writes (at + 7) id x parts

-- earlier parts are deleted, and new ones made. What is split has no category of its own
abbrev pub split_writes : Rows → Text → TxRow → List SplitPart → List Write
split_writes rows id x parts =
    on_each (codes "tombstone") (flag true) (parts_of rows id)
    ++ (tx_write (Given id) (codes "isParent") (flag true)
    ∷ tx_write (Given id) (codes "category") Null
    ∷ parts_writes (length (parts_of rows id) + 2) id x parts)

-- the day of a transaction is a number that a value holds
abbrev pub HasDay : TxRow → Type 0
HasDay x = (day : ℕ) → x.date ≡ Some day → HoldsNumber (pos day)

-- the amounts of the parts add up to that of the transaction
abbrev pub split : Rows → Text → List SplitPart → Result (List Write) EditFault
split rows id parts = do
  x ← live_tx rows id
  _ ← no_child id x
  _ ← no_pair rows id x
  _ ← each (λ (p : SplitPart). an_amount p.amount) parts
  _ ← each (λ (p : SplitPart). if_there (live_category rows) p.category) parts
  _ ← no_rest (x.amount -ℤ total (λ (p : SplitPart). p.amount) parts)
  Ok (split_writes rows id x parts)
