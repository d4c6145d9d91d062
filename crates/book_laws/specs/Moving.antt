-- What a transfer makes.
use Rattle.std.specs.Prelude.{◌≡◌, ◌≢◌, ℕ, ℤ, neg_ℤ, false, List, Option, None, Some, Ok}
use Rattle.std.specs.FinMap as map
use Rattle.finite_sums.specs.Maps.{Text}
use Rattle.book_rows.specs.declared.rows.Rows.{Rows}
use Rattle.book_rows.specs.declared.rows.TxRow.{TxRow}
use Rattle.book_rows.specs.declared.write.Write.{Write}
use Rattle.book_rows.specs.Rules.{tx_table}
use Rattle.book_rows.specs.Tables.{blank_row}
use Rattle.split_transfer.specs.After.{Ids, with_writes}
use Rattle.split_transfer.specs.Transfers.{payee_for, transfer}
use Rattle.book_laws.specs.Leaving.{notes_or_none}

-- the row of an id is one of the two: it is live and neither split nor part of a split, of this account and with this amount, on this
-- day, to this payee, with these notes and in no category, and its other part is this one
pub record IsHalf (rows : Rows) (id account : Text) (amount : ℤ) (day : ℕ) (payee : Option Text) (notes other : Text) : Type 0 where
  pub tx : TxRow
  pub there : map.get rows.txs id ≡ Some tx
  pub account_is : tx.acct ≡ Some account
  pub moves : tx.amount ≡ amount
  pub dated : tx.date ≡ Some day
  pub to : tx.description ≡ payee
  -- empty notes are none
  pub noted : tx.notes ≡ notes_or_none notes
  pub free : tx.category ≡ None
  pub paired : tx.transferred_id ≡ Some other
  pub alive : tx.tombstone ≡ false
  pub whole : tx.is_parent ≡ false
  pub single : tx.is_child ≡ false
  -- all else is as in a row of which no column is known
  pub bare : tx ≡ record (blank_row tx_table id) { acct = tx.acct; date = tx.date; amount = tx.amount; description = tx.description; notes = tx.notes; transferred_id = tx.transferred_id }

-- the rows are those before a transfer, and two transactions more
pub record IsTransferred (ids : Ids) (before after : Rows) (from to : Text) (day : ℕ) (amount : ℤ) (notes : Text) : Type 0 where
  -- the account from which the amount goes has that much less, and the one to which it goes has it more
  pub out_of : IsHalf after (ids 0) from (neg_ℤ amount) day (payee_for before to) notes (ids 6)
  pub into : IsHalf after (ids 6) to amount day (payee_for before from) notes (ids 0)
  -- no other transaction changes
  pub others : (q : Text) → q ≢ ids 0 → q ≢ ids 6 → map.get after.txs q ≡ map.get before.txs q
  -- and nothing but transactions does
  pub elsewhere : after ≡ record before { txs = after.txs }

-- what a transfer that is accepted makes, where the ids of the rows that it makes are new and differ
abbrev pub TransfersMove : Type 0
TransfersMove = (ids : Ids) (rows : Rows) (from to : Text) (day : ℕ) (amount : ℤ) (notes : Text) (ws : List Write) → transfer rows from to day amount notes ≡ Ok ws
    → map.get rows.txs (ids 0) ≡ None → map.get rows.txs (ids 6) ≡ None → ids 0 ≢ ids 6 → IsTransferred ids rows (with_writes ids rows ws) from to day amount notes
