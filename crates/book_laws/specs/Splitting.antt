-- What a split makes.
use Rattle.std.specs.Prelude.{◌≡◌, ◌≢◌, ℕ, ◌<◌, ◌+◌, ◌*◌, true, false, List, length, None, Some, Ok}
use Rattle.std.specs.List.{slice_get}
use Rattle.std.specs.FinMap as map
use Rattle.finite_sums.specs.Maps.{Text, text_cmp, is_among}
use Rattle.book_rows.specs.declared.rows.Rows.{Rows}
use Rattle.book_rows.specs.declared.rows.TxRow.{TxRow}
use Rattle.book_rows.specs.declared.write.Write.{Write}
use Rattle.book_rows.specs.Kinds.{is_day}
use Rattle.book_rows.specs.Rules.{tx_table}
use Rattle.book_rows.specs.Tables.{blank_row}
use Rattle.split_transfer.specs.declared.edit.SplitPart.{SplitPart}
use Rattle.split_transfer.specs.Pairs.{parts_of}
use Rattle.split_transfer.specs.Splits.{split}
use Rattle.split_transfer.specs.After.{Ids, with_writes, makes}

-- the row of a part: of the account, the day and the payee of what is split, with the amount and the category that are given
abbrev pub part_row : Text → Text → TxRow → SplitPart → TxRow
part_row own id x part = record (blank_row tx_table own) { acct = x.acct; date = x.date; description = x.description; amount = part.amount; category = part.category; is_child = true; parent_id = Some id }

-- the place of the write that makes the row of a part: behind one for each earlier part, and two of what is split; each part takes seven
abbrev pub part_at : Rows → Text → ℕ → ℕ
part_at rows id i = (length (parts_of rows id) + 2) + 7 * i

-- the rows are those before a split, but for the transaction that is split, its earlier parts and its new ones
pub record IsSplitInto (ids : Ids) (before after : Rows) (id : Text) (x : TxRow) (parts : List SplitPart) : Type 0 where
  -- the transaction is split and has no category, and keeps all else
  pub whole : map.get after.txs id ≡ Some (record x { is_parent = true; category = None })
  -- earlier parts are deleted
  pub earlier : (q : Text) (y : TxRow) → is_among text_cmp (parts_of before id) q ≡ true → map.get before.txs q ≡ Some y → map.get after.txs q ≡ Some (record y { tombstone = true })
  -- each part is made as it is given
  pub part : (i : ℕ) (part : SplitPart) → slice_get parts i ≡ Some part → map.get after.txs (ids (part_at before id i)) ≡ Some (part_row (ids (part_at before id i)) id x part)
  -- no other transaction changes
  pub others : (q : Text) → q ≢ id → is_among text_cmp (parts_of before id) q ≡ false → ((i : ℕ) → i < length parts → q ≢ ids (part_at before id i)) → map.get after.txs q ≡ map.get before.txs q
  -- and nothing but transactions does
  pub elsewhere : after ≡ record before { txs = after.txs }

-- no transaction has the id of a row that the writes make, and these ids differ
pub record AreNewIds (ids : Ids) (rows : Rows) (ws : List Write) : Type 0 where
  pub new : (at : ℕ) → makes ws at ≡ true → map.get rows.txs (ids at) ≡ None
  pub different : (m n : ℕ) → makes ws m ≡ true → makes ws n ≡ true → ids m ≡ ids n → m ≡ n

-- what a split that is accepted makes of a transaction whose day, if it has one, is one of the calendar
abbrev pub SplitsMakeParts : Type 0
SplitsMakeParts = (ids : Ids) (rows : Rows) (id : Text) (x : TxRow) (parts : List SplitPart) (ws : List Write) → split rows id parts ≡ Ok ws → map.get rows.txs id ≡ Some x
    → ((day : ℕ) → x.date ≡ Some day → is_day day ≡ true) → AreNewIds ids rows ws → IsSplitInto ids rows (with_writes ids rows ws) id x parts
