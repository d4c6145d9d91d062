-- Writes that delete no transaction that was there, bring none back, and touch none of its links, its day or its amount leave pairs and splits right.
use Rattle.std.proofs.Common.{◌≡◌, Bool, true, false, cond, List, [], ◌∷◌, Option, Some, None, refl, ap, sym, ◌∙◌, subst}
use Rattle.std.specs.Prelude.{◌≢◌, ◌&&◌, not, unwrap_or}
use lib.IntN.{ℤ, ◌+ℤ◌}
use Rattle.std.specs.FinMap.{get}
use Rattle.std.specs.List.{AllByRecursion}
use Rattle.finite_sums.specs.Sums.{only_if}
use Rattle.finite_sums.specs.Maps.{Text, value_or_zero}
use Rattle.field_values.specs.declared.value.Value.{Value}
use Rattle.book_rows.specs.declared.column.Dataset.{Dataset}
use Rattle.book_rows.specs.declared.column.Column.{Column}
use Rattle.book_rows.specs.declared.rows.Rows.{Rows}
use Rattle.book_rows.specs.declared.rows.TxRow.{TxRow}
use Rattle.book_rows.specs.declared.write.Write.{Write}
use Rattle.book_rows.specs.Columns.{dataset_of, column_of}
use Rattle.book_rows.specs.Rows.{with_cell, with_known}
use Rattle.book_rows.specs.Parts.{is_text}
use Rattle.book_rows.proofs.Naming.{dataset_found}
use Rattle.book_edits.specs.Checks.{same_id}
use Rattle.split_transfer.specs.Pairs.{share, parts_sum}
use Rattle.split_transfer.specs.After.{Ids, row_of, value_in, with_write, with_writes}
use Rattle.split_transfer.specs.Right.{AreOpposite, StayRight}
use Rattle.split_transfer.specs.PlainEdits.{IsAdded}
use Rattle.split_transfer.proofs.Columns.{TxColumn, with_column, blank, Put, as_write}
use Rattle.split_transfer.proofs.Basics.{option_cases, none_some, same_is}
use Rattle.split_transfer.proofs.After.{get-with_write}
use Rattle.split_transfer.proofs.Links.{KeepsLinks, pairs_from, splits_from}
use Rattle.split_transfer.proofs.SameSums.{total_of-same_values}
use Rattle.split_transfer.proofs.Single.{clash, no_part}
use Rattle.split_transfer.proofs.Elsewhere.{IsOther}

-- the later row has the links, the day and the amount of the earlier one, and is deleted where that is
pub record IsSame (x y : TxRow) : Type 0 where
  pub transferred : y.transferred_id ≡ x.transferred_id
  pub child : y.is_child ≡ x.is_child
  pub parent : y.parent_id ≡ x.parent_id
  pub dead : y.tombstone ≡ x.tombstone
  pub split : y.is_parent ≡ x.is_parent
  pub amount : y.amount ≡ x.amount
  pub day : y.date ≡ x.date

-- a row that hangs together with no other one
pub record IsAlone (y : TxRow) : Type 0 where
  pub transferred : y.transferred_id ≡ None
  pub child : y.is_child ≡ false
  pub split : y.is_parent ≡ false

same_trans : (x y z : TxRow) → IsSame x y → IsSame y z → IsSame x z
same_trans x y z p q = record {
  transferred = q.transferred ∙ p.transferred;
  child = q.child ∙ p.child;
  parent = q.parent ∙ p.parent;
  dead = q.dead ∙ p.dead;
  split = q.split ∙ p.split;
  amount = q.amount ∙ p.amount;
  day = q.day ∙ p.day;
}

-- what was there is the same, and what is new is alone
abbrev pub IsKept : Option TxRow → Option TxRow → Type 0
IsKept None None = Unit {0}
IsKept None (Some y) = IsAlone y
IsKept (Some x) None = ⊥
IsKept (Some x) (Some y) = IsSame x y

pub record Keeps (r m : Rows) : Type 0 where
  pub rows : (q : Text) → IsKept (get r.txs q) (get m.txs q)

-- a write that keeps all of this
pub record IsHarmless (ids : Ids) (r : Rows) (w : Write) : Type 0 where
  pub step : (m : Rows) → Keeps r m → Keeps r (with_write ids m w)

abbrev pub AreHarmless : Ids → Rows → List Write → Type 0
AreHarmless ids r ws = AllByRecursion (IsHarmless ids r) ws

-- ---- a write into another dataset

known_txs : (d : Dataset) → ((id : Text) (c : Column) (v : Value) (r : Rows) → (with_cell d id c v r).txs ≡ r.txs)
    → (c : Option Column) (id : Text) (v : Value) (r : Rows) → (with_known (Some d) c id v r).txs ≡ r.txs
known_txs d other None id v r = refl
known_txs d other (Some c) id v r = other id c v r

other_txs : (ids : Ids) (m : Rows) (w : Write) → IsOther w.dataset → (with_write ids m w).txs ≡ m.txs
other_txs ids m w is =
    ap (λ t. (with_known (dataset_of t) (column_of w.column) (row_of ids w.row) (value_in ids w.value) m).txs) is.named
    ∙ ap (λ d. (with_known d (column_of w.column) (row_of ids w.row) (value_in ids w.value) m).txs) (dataset_found is.dataset)
    ∙ known_txs is.dataset is.other (column_of w.column) (row_of ids w.row) (value_in ids w.value) m

pub elsewhere : (ids : Ids) (r : Rows) (w : Write) → IsOther w.dataset → IsHarmless ids r w
elsewhere ids r w is = record { step = λ m k. record { rows = λ q. subst (λ t. IsKept (get r.txs q) (get t q)) (sym (other_txs ids m w is)) (k.rows q) } }

-- ---- a write into a transaction

-- a column that leaves links, day and amount, and whether the transaction is deleted
pub record IsPlain (c : TxColumn) : Type 0 where
  pub same : (v : Value) (x : TxRow) → IsSame x (with_column c v x)

-- a column that links no transaction to another, and splits none
pub record IsLoose (c : TxColumn) : Type 0 where
  pub alone : (v : Value) (x : TxRow) → IsAlone x → IsAlone (with_column c v x)

alone_same : (x y : TxRow) → IsSame x y → IsAlone x → IsAlone y
alone_same x y s a = record { transferred = s.transferred ∙ a.transferred; child = s.child ∙ a.child; split = s.split ∙ a.split }

blank_alone : (q : Text) → IsAlone (blank q)
blank_alone q = record { transferred = refl; child = refl; split = refl }

pub into_any : (ids : Ids) (r : Rows) (p : Put) → IsPlain p.column → IsHarmless ids r (as_write p)
into_any ids r p plain = record {
  step = λ m k. record {
    rows = λ q. subst (IsKept (get r.txs q)) (sym (get-with_write ids m p q)) (by q (same_id q (row_of ids p.row)) (get r.txs q) (get m.txs q) (k.rows q));
  };
}
  where
    by : (q : Text) (b : Bool) (o n : Option TxRow) → IsKept o n → IsKept o (cond b (Some (with_column p.column (value_in ids p.value) (unwrap_or n (blank q)))) n)
    by q false o n h = h
    by q true None None h = alone_same (blank q) (with_column p.column (value_in ids p.value) (blank q)) (plain.same (value_in ids p.value) (blank q)) (blank_alone q)
    by q true None (Some y) h = alone_same y (with_column p.column (value_in ids p.value) y) (plain.same (value_in ids p.value) y) h
    by q true (Some x) None h = absurd h
    by q true (Some x) (Some y) h = same_trans x y (with_column p.column (value_in ids p.value) y) h (plain.same (value_in ids p.value) y)

pub into_new : (ids : Ids) (r : Rows) (p : Put) → IsLoose p.column → get r.txs (row_of ids p.row) ≡ None → IsHarmless ids r (as_write p)
into_new ids r p loose none = record {
  step = λ m k. record {
    rows = λ q. subst (IsKept (get r.txs q)) (sym (get-with_write ids m p q)) (by q (same_id q (row_of ids p.row)) refl (get r.txs q) refl (get m.txs q) (k.rows q));
  };
}
  where
    by : (q : Text) (b : Bool) → same_id q (row_of ids p.row) ≡ b → (o : Option TxRow) → get r.txs q ≡ o → (n : Option TxRow) → IsKept o n
        → IsKept o (cond b (Some (with_column p.column (value_in ids p.value) (unwrap_or n (blank q)))) n)
    by q false t o e n h = h
    by q true t None e None h = loose.alone (value_in ids p.value) (blank q) (blank_alone q)
    by q true t None e (Some y) h = loose.alone (value_in ids p.value) y h
    by q true t (Some x) e n h = clash (get r.txs q) x e (ap (get r.txs) (same_is q (row_of ids p.row) t) ∙ none)

-- ---- all writes

keeps_all : (ids : Ids) (r : Rows) (ws : List Write) (m : Rows) → AreHarmless ids r ws → Keeps r m → Keeps r (with_writes ids m ws)
keeps_all ids r [] m h k = k
keeps_all ids r (w ∷ ws) m h k = keeps_all ids r ws (with_write ids m w) h.1 (h.0.step m k)

keeps_itself : (r : Rows) → Keeps r r
keeps_itself r = record { rows = λ q. by (get r.txs q) }
  where
    by : (o : Option TxRow) → IsKept o o
    by None = tt
    by (Some x) = record { transferred = refl; child = refl; parent = refl; dead = refl; split = refl; amount = refl; day = refl }

abbrev share_by : Text → Bool → Option Text → Bool → ℤ → ℤ
share_by id child parent dead amount = only_if ((child && is_text id parent) && not dead) amount

same_share : (id : Text) (x y : TxRow) → IsSame x y → share id y ≡ share id x
same_share id x y s =
    ap (λ c. share_by id c y.parent_id y.tombstone y.amount) s.child
    ∙ ap (λ p. share_by id x.is_child p y.tombstone y.amount) s.parent
    ∙ ap (λ d. share_by id x.is_child x.parent_id d y.amount) s.dead
    ∙ ap (λ z. share_by id x.is_child x.parent_id x.tombstone z) s.amount

module _ (r s : Rows) (k : Keeps r s) where
  is_same : (q : Text) (x y : TxRow) → get r.txs q ≡ Some x → get s.txs q ≡ Some y → IsSame x y
  is_same q x y was now = subst (λ o. IsKept o (Some y)) was (subst (IsKept (get r.txs q)) now (k.rows q))

  is_alone : (q : Text) (y : TxRow) → get r.txs q ≡ None → get s.txs q ≡ Some y → IsAlone y
  is_alone q y none now = subst (λ o. IsKept o (Some y)) none (subst (IsKept (get r.txs q)) now (k.rows q))

  sums : (id : Text) → parts_sum s id ≡ parts_sum r id
  sums id = total_of-same_values (share id) (share id) s.txs r.txs (λ q. by (get r.txs q) (get s.txs q) (k.rows q))
    where
      by : (o n : Option TxRow) → IsKept o n → value_or_zero (share id) n ≡ value_or_zero (share id) o
      by None None h = refl
      by None (Some y) h = no_part id y h.child
      by (Some x) None h = absurd h
      by (Some x) (Some y) h = same_share id x y h

  still_opposite : (v w x y : TxRow) → IsSame v x → IsSame w y → AreOpposite v w → AreOpposite x y
  still_opposite v w x y p q right = record {
    amounts = ap (λ z. z +ℤ y.amount) p.amount ∙ ap (λ z. v.amount +ℤ z) q.amount ∙ right.amounts;
    dates = p.day ∙ right.dates ∙ sym q.day;
  }

  module _ (childless : (added id : Text) (y x : TxRow) → get r.txs added ≡ None → get s.txs added ≡ Some y → get r.txs id ≡ Some x → x.parent_id ≢ Some added) where
    links : KeepsLinks r s
    links = record {
      rows = λ q x y was now. let e = is_same q x y was now in record { transferred = e.transferred; child = e.child; parent = e.parent; alive = λ h. sym e.dead ∙ h };
      parents = λ q x p was up none. option_cases (get s.txs p) (λ gone. gone) (λ y there. absurd (childless p q y x none there was up));
    }

    kept_right : StayRight r s
    kept_right = record {
      pairs = pairs_from r s links
          (λ a b v w x y p right was now. still_opposite v w x y (is_same a v x p.first.there was) (is_same b w y p.second.there now) right)
          (λ a b x y none now there named. none_some b (sym (is_alone a x none now).transferred ∙ named));
      splits = splits_from r s links
          (λ id v x ls was split right now. (is_same id v x was now).amount ∙ right ∙ sym (sums id))
          (λ id v x was now up. sym (is_same id v x was now).split ∙ up)
          (λ id x none now. (is_alone id x none now).split);
    }

pub harmless_stays_right : (ids : Ids) (r : Rows) (ws : List Write) → AreHarmless ids r ws → IsAdded ids r ws → StayRight r (with_writes ids r ws)
harmless_stays_right ids r ws h a = kept_right r (with_writes ids r ws) (keeps_all ids r ws r h (keeps_itself r)) a.childless
