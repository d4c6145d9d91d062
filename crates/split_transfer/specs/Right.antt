-- Which pairs and splits are right, and that edits leave them so.
use Rattle.std.specs.Prelude.{◌≡◌, ◌≢◌, ◌↔◌, ℕ, pos, ◌+ℤ◌, true, false, List, None, Some, Ok}
use Rattle.std.specs.FinMap as map
use Rattle.finite_sums.specs.Maps.{Text, text_cmp, is_among}
use Rattle.book_rows.specs.declared.rows.Rows.{Rows}
use Rattle.book_rows.specs.declared.rows.TxRow.{TxRow}
use Rattle.book_rows.specs.declared.write.Write.{Write}
use Rattle.book_rows.specs.Live.{is_live_tx}
use Rattle.split_transfer.specs.declared.edit.PairEdit.{PairEdit}
use Rattle.split_transfer.specs.Pairs.{partner_of, parts_of, parts_sum}
use Rattle.split_transfer.specs.Edits.{pair_writes}
use Rattle.split_transfer.specs.After.{Ids, with_writes, makes}

-- the transaction of the id is there, and it is live
pub record IsLiveRow (rows : Rows) (id : Text) (x : TxRow) : Type 0 where
  pub there : map.get rows.txs id ≡ Some x
  pub live : is_live_tx rows x ≡ true

-- two live transactions that name each other
pub record ArePair (rows : Rows) (a : Text) (x : TxRow) (b : Text) (y : TxRow) : Type 0 where
  pub apart : a ≢ b
  pub first : IsLiveRow rows a x
  pub second : IsLiveRow rows b y
  pub forth : x.transferred_id ≡ Some b
  pub back : y.transferred_id ≡ Some a

-- which transactions are told as hanging together
pub record LinksAreTold (rows : Rows) : Type 0 where
  -- the partner of a live transaction is the one with which it is a pair
  pub partner : (a b : Text) (x : TxRow) → IsLiveRow rows a x → (partner_of rows a x ≡ Some b) ↔ ((y : TxRow) × ArePair rows a x b y)
  -- the parts of a transaction that was not deleted are the live ones that say so
  pub part : (id q : Text) (p : TxRow) → map.get rows.txs id ≡ Some p → p.tombstone ≡ false
      → (is_among text_cmp (parts_of rows id) q ≡ true) ↔ ((y : TxRow) × IsLiveRow rows q y × (y.is_child ≡ true) × (y.parent_id ≡ Some id))

-- a right pair: the amounts are opposite, and the days are the same
pub record AreOpposite (x y : TxRow) : Type 0 where
  pub amounts : x.amount +ℤ y.amount ≡ pos 0
  pub dates : x.date ≡ y.date

-- a live transaction that is split
pub record IsSplit (rows : Rows) (id : Text) (x : TxRow) : Type 0 where
  pub parent : IsLiveRow rows id x
  pub is_parent : x.is_parent ≡ true

-- each pair of the later rows is right, unless it was a wrong pair before
abbrev pub PairsStayRight : Rows → Rows → Type 0
PairsStayRight r s = (a b : Text) (x y : TxRow) → ArePair s a x b y
    → ((v w : TxRow) → ArePair r a v b w → AreOpposite v w) → AreOpposite x y

-- each split of the later rows is even, unless it was a split before that was not
abbrev pub SplitsStayRight : Rows → Rows → Type 0
SplitsStayRight r s = (id : Text) (x : TxRow) → IsSplit s id x
    → ((v : TxRow) → IsSplit r id v → v.amount ≡ parts_sum r id) → x.amount ≡ parts_sum s id

-- what is right stays right, and what is new is right
pub record StayRight (r s : Rows) : Type 0 where
  pub pairs : PairsStayRight r s
  pub splits : SplitsStayRight r s

-- what is asked of the rows before, and of the ids of made rows
pub record AreApart (ids : Ids) (rows : Rows) (ws : List Write) : Type 0 where
  -- no part of a pair is split, or part of a split
  pub plain : (a b : Text) (x y : TxRow) → ArePair rows a x b y → (x.is_parent ≡ false) × (x.is_child ≡ false)
  -- the ids of made rows are new, and differ
  pub new : (at : ℕ) → makes ws at ≡ true → map.get rows.txs (ids at) ≡ None
  pub different : (m n : ℕ) → makes ws m ≡ true → makes ws n ≡ true → ids m ≡ ids n → m ≡ n
  -- no transaction names one that is new as what it is a part of
  pub childless : (at : ℕ) (id : Text) (x : TxRow) → makes ws at ≡ true → map.get rows.txs id ≡ Some x → x.parent_id ≢ Some (ids at)

-- after an edit that is accepted each pair and each split that was right is right if it is still there, and so is each that it makes
abbrev pub PairsAndSplitsStayRight : Type 0
PairsAndSplitsStayRight = (ids : Ids) (rows : Rows) (edit : PairEdit) (ws : List Write) → pair_writes rows edit ≡ Ok ws → AreApart ids rows ws → StayRight rows (with_writes ids rows ws)
