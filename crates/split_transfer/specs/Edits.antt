-- The writes of an edit, or its first refusal.
use Rattle.std.specs.Prelude.{◌≡◌, List, Result, Ok}
use Rattle.book_rows.specs.declared.rows.Rows.{Rows}
use Rattle.book_rows.specs.declared.rows.TxRow.{TxRow}
use Rattle.book_rows.specs.declared.write.Write.{Write}
use Rattle.book_rows.specs.declared.fault.EditFault.{EditFault}
use Rattle.split_transfer.specs.declared.edit.PairEdit.{PairEdit}
use Rattle.split_transfer.specs.declared.edit.PairEdit.TheVariants.{TxSet, TxDelete, Split, Transfer}
use Rattle.split_transfer.specs.Changes.{tx_set, tx_delete}
use Rattle.split_transfer.specs.Checks.{live_tx}
use Rattle.split_transfer.specs.Splits.{split, HasDay}
use Rattle.split_transfer.specs.Transfers.{transfer}

-- the writes of an edit of a book with these rows, in the order in which they are made, or the first refusal
abbrev pub pair_writes : Rows → PairEdit → Result (List Write) EditFault
pair_writes rows (TxSet id change) = tx_set rows id change
pair_writes rows (TxDelete id) = tx_delete rows id
pair_writes rows (Split id parts) = split rows id parts
pair_writes rows (Transfer from to date amount notes) = transfer rows from to date amount notes

-- what is split has a day that a value holds, if it has one
abbrev pub IsDated : Rows → PairEdit → Type 0
IsDated rows (Split id parts) = (x : TxRow) → live_tx rows id ≡ Ok x → HasDay x
IsDated rows edit = Unit {0}
