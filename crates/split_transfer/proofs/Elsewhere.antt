-- Writes into other datasets than that of transactions change no pair and no split.
use Rattle.std.proofs.Common.{◌≡◌, List, [], ◌∷◌, Option, Some, None, refl, ap, sym, ◌∙◌, subst}
use Rattle.std.specs.FinMap.{get}
use Rattle.std.specs.List.{AllByRecursion}
use Rattle.finite_sums.specs.Maps.{Text, total_of}
use Rattle.field_values.specs.declared.value.Value.{Value}
use Rattle.book_rows.specs.declared.column.Dataset.{Dataset}
use Rattle.book_rows.specs.declared.column.Column.{Column}
use Rattle.book_rows.specs.declared.rows.Rows.{Rows}
use Rattle.book_rows.specs.declared.rows.TxRow.{TxRow}
use Rattle.book_rows.specs.declared.write.Write.{Write}
use Rattle.book_rows.specs.Columns.{dataset_name, dataset_of, column_of}
use Rattle.book_rows.specs.Rows.{with_cell, with_known}
use Rattle.book_rows.proofs.Naming.{dataset_found}
use Rattle.split_transfer.specs.Pairs.{share}
use Rattle.split_transfer.specs.After.{Ids, row_of, value_in, with_write, with_writes}
use Rattle.split_transfer.specs.Right.{AreOpposite, StayRight}
use Rattle.split_transfer.proofs.Basics.{some_is}
use Rattle.split_transfer.proofs.Links.{SameLinks, same_links, KeepsLinks, pairs_from, splits_from}
use Rattle.split_transfer.proofs.Single.{clash}

-- the name of a dataset into which a write changes no transaction
pub record IsOther (name : Text) : Type 0 where
  pub dataset : Dataset
  pub named : name ≡ dataset_name dataset
  pub other : (id : Text) (c : Column) (v : Value) (r : Rows) → (with_cell dataset id c v r).txs ≡ r.txs

-- the writes of a list go there
abbrev pub AreElsewhere : List Write → Type 0
AreElsewhere ws = AllByRecursion (λ w. IsOther w.dataset) ws

known_txs : (d : Dataset) → ((id : Text) (c : Column) (v : Value) (r : Rows) → (with_cell d id c v r).txs ≡ r.txs)
    → (c : Option Column) (id : Text) (v : Value) (r : Rows) → (with_known (Some d) c id v r).txs ≡ r.txs
known_txs d other None id v r = refl
known_txs d other (Some c) id v r = other id c v r

one_elsewhere : (ids : Ids) (r : Rows) (w : Write) → IsOther w.dataset → (with_write ids r w).txs ≡ r.txs
one_elsewhere ids r w is =
    ap (λ t. (with_known (dataset_of t) (column_of w.column) (row_of ids w.row) (value_in ids w.value) r).txs) is.named
    ∙ ap (λ d. (with_known d (column_of w.column) (row_of ids w.row) (value_in ids w.value) r).txs) (dataset_found is.dataset)
    ∙ known_txs is.dataset is.other (column_of w.column) (row_of ids w.row) (value_in ids w.value) r

all_elsewhere : (ids : Ids) (ws : List Write) (r : Rows) → AreElsewhere ws → (with_writes ids r ws).txs ≡ r.txs
all_elsewhere ids [] r h = refl
all_elsewhere ids (w ∷ ws) r h = all_elsewhere ids ws (with_write ids r w) h.1 ∙ one_elsewhere ids r w h.0

pub still_opposite : {v w x y : TxRow} → v ≡ x → w ≡ y → AreOpposite v w → AreOpposite x y
still_opposite {v} {w} {x} {y} e f h = subst (AreOpposite x) f (subst (λ u. AreOpposite u w) e h)

-- the same transactions make the same pairs and splits
module _ (r s : Rows) (e : s.txs ≡ r.txs) where
  still : (q : Text) → get s.txs q ≡ get r.txs q
  still q = ap (λ m. get m q) e

  same : (q : Text) (v y : TxRow) → get r.txs q ≡ Some v → get s.txs q ≡ Some y → v ≡ y
  same q v y was now = some_is v y (sym (still q ∙ was) ∙ now)

  links : KeepsLinks r s
  links = record {
    rows = λ q v y was now. subst (SameLinks v) (same q v y was now) (same_links v);
    parents = λ q v p was up none. still p ∙ none;
  }

  same_txs : StayRight r s
  same_txs = record {
    pairs = pairs_from r s links
        (λ a b v w x y p right was now. still_opposite (same a v x p.first.there was) (same b w y p.second.there now) right)
        (λ a b x y none was now named. clash _ x was (still a ∙ none));
    splits = splits_from r s links
        (λ id v y ls was split right now. ap (λ (t : TxRow). t.amount) (sym (same id v y was now)) ∙ right ∙ sym (ap (total_of (share id)) e))
        (λ id v y was now up. ap (λ (t : TxRow). t.is_parent) (same id v y was now) ∙ up)
        (λ id y none now. clash _ y now (still id ∙ none));
  }

pub elsewhere_stays_right : (ids : Ids) (r : Rows) (ws : List Write) → AreElsewhere ws → StayRight r (with_writes ids r ws)
elsewhere_stays_right ids r ws h = same_txs r (with_writes ids r ws) (all_elsewhere ids ws r h)
