-- What edits leave of the links between rows, and what follows for pairs and splits.
use Rattle.std.proofs.Common.{◌≡◌, Bool, true, false, cond, List, [], ◌∷◌, Option, Some, None, refl, ap, sym, ◌∙◌, subst, arith}
use Rattle.std.specs.Prelude.{◌&&◌, ◌||◌, not, unwrap_or}
use Rattle.std.proofs.lemmas.Int.{ints}
use Rattle.std.specs.FinMap.{get}
use Rattle.finite_sums.specs.Maps.{Text, text_cmp, some_and, is_among, value_or_zero}
use Rattle.finite_sums.proofs.Texts.{text_total, text_same}
use Rattle.field_values.specs.declared.value.Value.{Value}
use Rattle.book_rows.specs.declared.rows.Rows.{Rows}
use Rattle.book_rows.specs.declared.rows.TxRow.{TxRow}
use Rattle.book_rows.specs.Parts.{is_text}
use Rattle.book_rows.specs.Live.{is_live_tx}
use Rattle.book_edits.specs.Checks.{same_id}
use Rattle.split_transfer.specs.Pairs.{only_where, live_row, names_back, partner_of, is_part, is_kept, parts_of, share, parts_sum}
use Rattle.split_transfer.specs.After.{Ids, with_writes}
use Rattle.split_transfer.specs.Right.{IsLiveRow, ArePair, AreOpposite, IsSplit, PairsStayRight, SplitsStayRight}
use Rattle.split_transfer.proofs.Columns.{TxColumn, with_column, blank, on_each}
use Rattle.split_transfer.proofs.Basics.{bool_cases, option_cases, both_true, and_both, not_true, true_false, none_some, some_is, same_is, not_same, is_other, names_is, names_it, holds_some, where_some}
use Rattle.split_transfer.proofs.After.{each_after, each_row, each_none}
use Rattle.split_transfer.proofs.SameSums.{total_of-same_values}
use Rattle.std.proofs.Common.{filter}
use Rattle.finite_sums.proofs.MapSums.{among-keys_where}
use Rattle.book_rows.specs.Parts.{is_child_of, children_of}

-- the later row hangs together with the same rows
pub record SameLinks (x y : TxRow) : Type 0 where
  pub transferred : y.transferred_id ≡ x.transferred_id
  pub child : y.is_child ≡ x.is_child
  pub parent : y.parent_id ≡ x.parent_id
  pub alive : y.tombstone ≡ false → x.tombstone ≡ false

pub same_links : (x : TxRow) → SameLinks x x
same_links x = record { transferred = refl; child = refl; parent = refl; alive = λ h. h }

pub links_trans : (x y z : TxRow) → SameLinks x y → SameLinks y z → SameLinks x z
links_trans x y z p q = record {
  transferred = q.transferred ∙ p.transferred;
  child = q.child ∙ p.child;
  parent = q.parent ∙ p.parent;
  alive = λ h. p.alive (q.alive h);
}

-- each row keeps its links, and no child gets a parent that was not there
pub record KeepsLinks (r s : Rows) : Type 0 where
  pub rows : (q : Text) (x y : TxRow) → get r.txs q ≡ Some x → get s.txs q ≡ Some y → SameLinks x y
  pub parents : (q : Text) (x : TxRow) (p : Text) → get r.txs q ≡ Some x → x.parent_id ≡ Some p → get r.txs p ≡ None → get s.txs p ≡ None

not_false : (a : Bool) → a ≡ false → not a ≡ true
not_false a h = rw h refl

module _ (r s : Rows) (k : KeepsLinks r s) where
  stood : (q : Text) (x : TxRow) (p : Text) → get r.txs q ≡ Some x → x.parent_id ≡ Some p → is_kept s p ≡ true → is_kept r p ≡ true
  stood q x p here up h =
      let w = holds_some (λ (x : TxRow). not x.tombstone) (get s.txs p) h in
      option_cases (get r.txs p)
      (λ none. none_some w.0 (sym (k.parents q x p here up none) ∙ w.1))
      (λ v there. ap (some_and (λ (x : TxRow). not x.tombstone)) there ∙ not_false _ ((k.rows p v w.0 there w.1).alive (not_true _ w.2)))

  parent_stood : (q : Text) (x : TxRow) → get r.txs q ≡ Some x → some_and (is_kept s) x.parent_id ≡ true → some_and (is_kept r) x.parent_id ≡ true
  parent_stood q x here h =
      let w = holds_some (is_kept s) x.parent_id h in
      ap (some_and (is_kept r)) w.1 ∙ stood q x w.0 here w.1 w.2

  had_parent : (q : Text) (x : TxRow) → get r.txs q ≡ Some x → (b : Bool) → cond b (some_and (is_kept s) x.parent_id) true ≡ true → cond b (some_and (is_kept r) x.parent_id) true ≡ true
  had_parent q x here true h = parent_stood q x here h
  had_parent q x here false h = refl

  -- a row that is live was live
  pub was_live : (q : Text) (x y : TxRow) → get r.txs q ≡ Some x → get s.txs q ≡ Some y → is_live_tx s y ≡ true → is_live_tx r x ≡ true
  was_live q x y here there h =
      let l = k.rows q x y here there in
      let w = both_true _ _ h in
      let second : cond x.is_child (some_and (is_kept s) x.parent_id) true ≡ true = ap (λ c. cond c (some_and (is_kept s) x.parent_id) true) (sym l.child) ∙ ap (λ p. cond y.is_child (some_and (is_kept s) p) true) (sym l.parent) ∙ w.1 in
      and_both _ _ (not_false _ (l.alive (not_true _ w.0))) (had_parent q x here x.is_child second)

  was_live_row : (q : Text) (x y : TxRow) → get r.txs q ≡ Some x → IsLiveRow s q y → IsLiveRow r q x
  was_live_row q x y here l = record { there = here; live = was_live q x y here l.there l.live }

  was_pair : (a b : Text) (x y v w : TxRow) → ArePair s a x b y → get r.txs a ≡ Some v → get r.txs b ≡ Some w → ArePair r a v b w
  was_pair a b x y v w p here there = record {
    apart = p.apart;
    first = was_live_row a v x here p.first;
    second = was_live_row b w y there p.second;
    forth = sym (k.rows a v x here p.first.there).transferred ∙ p.forth;
    back = sym (k.rows b w y there p.second.there).transferred ∙ p.back;
  }

  opposite_swap : (x y : TxRow) → AreOpposite y x → AreOpposite x y
  opposite_swap x y h = let a = h.amounts in record { amounts = omega (arith, ints, a); dates = sym h.dates }

  pub pairs_from : ((a b : Text) (v w x y : TxRow) → ArePair r a v b w → AreOpposite v w → get s.txs a ≡ Some x → get s.txs b ≡ Some y → AreOpposite x y)
      → ((a b : Text) (x y : TxRow) → get r.txs a ≡ None → get s.txs a ≡ Some x → get s.txs b ≡ Some y → x.transferred_id ≡ Some b → AreOpposite x y)
      → PairsStayRight r s
  pairs_from old new a b x y p before =
      option_cases (get r.txs a)
      (λ none. new a b x y none p.first.there p.second.there p.forth)
      (λ v here. option_cases (get r.txs b)
      (λ none. opposite_swap x y (new b a y x none p.second.there p.first.there p.back))
      (λ w there. let q = was_pair a b x y v w p here there in old a b v w x y q (before v w q) p.first.there p.second.there))

  pub splits_from : ((id : Text) (v x : TxRow) → IsLiveRow s id x → get r.txs id ≡ Some v → IsSplit r id v → v.amount ≡ parts_sum r id → get s.txs id ≡ Some x → x.amount ≡ parts_sum s id)
      → ((id : Text) (v x : TxRow) → get r.txs id ≡ Some v → get s.txs id ≡ Some x → x.is_parent ≡ true → v.is_parent ≡ true)
      → ((id : Text) (x : TxRow) → get r.txs id ≡ None → get s.txs id ≡ Some x → x.is_parent ≡ false)
      → SplitsStayRight r s
  splits_from old turned new id x p before =
      option_cases (get r.txs id)
      (λ none. true_false x.is_parent p.is_parent (new id x none p.parent.there))
      (λ v here.
      let q : IsSplit r id v = record { parent = was_live_row id v x here p.parent; is_parent = turned id v x here p.parent.there p.is_parent } in
      old id v x p.parent here q (before v q) p.parent.there)

-- ---- partners

pub pair_swap : (r : Rows) (a b : Text) (x y : TxRow) → ArePair r a x b y → ArePair r b y a x
pair_swap r a b x y p = record { apart = λ h. p.apart (sym h); first = p.second; second = p.first; forth = p.back; back = p.forth }

pub partner_is : (r : Rows) (id : Text) (x : TxRow) (other : Text) → IsLiveRow r id x → partner_of r id x ≡ Some other → (y : TxRow) × ArePair r id x other y
partner_is r id x other l h =
    let w = where_some (λ other. not (same_id other id) && names_back r id other) x.transferred_id other h in
    let b = both_true _ _ w.1 in
    let n = holds_some (λ (y : TxRow). is_text id y.transferred_id) (live_row r other) b.1 in
    let f = where_some (is_live_tx r) (get r.txs other) n.0 n.1 in (
      n.0,
      record {
        apart = λ e. is_other other id (not_true _ b.0) (sym e);
        first = l;
        second = record { there = f.0; live = f.1 };
        forth = w.0;
        back = names_is _ id n.2;
      },
    )

pub partner_found : (r : Rows) (id : Text) (x : TxRow) (other : Text) (y : TxRow) → ArePair r id x other y → partner_of r id x ≡ Some other
partner_found r id x other y p =
    let live : live_row r other ≡ Some y = ap (only_where (is_live_tx r)) p.second.there ∙ ap (λ b. cond b (Some y) None) p.second.live in
    let back : names_back r id other ≡ true = ap (some_and (λ (y : TxRow). is_text id y.transferred_id)) live ∙ names_it _ id p.back in
    let apart : not (same_id other id) ≡ true = not_false _ (not_same other id (λ e. p.apart (sym e))) in
    ap (only_where (λ other. not (same_id other id) && names_back r id other)) p.forth ∙ ap (λ b. cond b (Some other) None) (and_both _ _ apart back)

-- ---- one value in one column of rows that are there

pub record AreThere (r : Rows) (ts : List Text) : Type 0 where
  pub there : (q : Text) → is_among text_cmp ts q ≡ true → get r.txs q ≡ None → ⊥

module _ (ids : Ids) (r : Rows) (c : TxColumn) (v : Value) (ts : List Text) (are : AreThere r ts) where
  pub not_there : (q : Text) → get r.txs q ≡ None → get (with_writes ids r (on_each c v ts)).txs q ≡ None
  not_there q h = each_none ids r c v ts q (bool_cases (is_among text_cmp ts q) (λ t. absurd (are.there q t h)) (λ f. f)) ∙ h

  pub each_links : ((x : TxRow) → SameLinks x (with_column c v x)) → KeepsLinks r (with_writes ids r (on_each c v ts))
  each_links same = record {
    rows = λ q x y here there. subst (SameLinks x) (some_is _ y (sym (each_row ids r c v ts q x here) ∙ there)) (by x (is_among text_cmp ts q));
    parents = λ q x p here up none. not_there p none;
  }
    where
      by : (x : TxRow) (b : Bool) → SameLinks x (cond b (with_column c v x) x)
      by x true = same x
      by x false = same_links x

  -- no part changes
  pub each_sums : (id : Text) → ((q : Text) (x : TxRow) → get r.txs q ≡ Some x → is_among text_cmp ts q ≡ true → share id (with_column c v x) ≡ share id x)
      → parts_sum (with_writes ids r (on_each c v ts)) id ≡ parts_sum r id
  each_sums id same = sym (total_of-same_values (share id) (share id) r.txs (with_writes ids r (on_each c v ts)).txs (λ q.
      by q (is_among text_cmp ts q) (get r.txs q) refl refl ∙ ap (value_or_zero (share id)) (sym (each_after ids r c v ts q))))
    where
      by : (q : Text) (b : Bool) (o : Option TxRow) → is_among text_cmp ts q ≡ b → get r.txs q ≡ o
          → value_or_zero (share id) o ≡ value_or_zero (share id) (cond b (Some (with_column c v (unwrap_or o (blank q)))) o)
      by q false o p g = refl
      by q true None p g = absurd (are.there q p g)
      by q true (Some x) p g = sym (same q x g p)

never : (t : Bool) → (t && false) ≡ false
never true = refl
never false = refl

kept_by : (r : Rows) (k : Text) (ks : List Text) (q : Text) → is_among text_cmp (filter (is_kept r) ks) q ≡ (is_among text_cmp ks q && is_kept r q)
    → (a b : Bool) → is_kept r k ≡ a → same_id q k ≡ b → is_among text_cmp (cond a (k ∷ filter (is_kept r) ks) (filter (is_kept r) ks)) q ≡ ((b || is_among text_cmp ks q) && is_kept r q)
kept_by r k ks q rest true true h e = ap (λ t. t || is_among text_cmp (filter (is_kept r) ks) q) e ∙ sym (ap (is_kept r) (same_is q k e) ∙ h)
kept_by r k ks q rest true false h e = ap (λ t. t || is_among text_cmp (filter (is_kept r) ks) q) e ∙ rest
kept_by r k ks q rest false true h e = rest ∙ ap (λ t. is_among text_cmp ks q && t) (ap (is_kept r) (same_is q k e) ∙ h) ∙ never (is_among text_cmp ks q) ∙ sym (ap (is_kept r) (same_is q k e) ∙ h)
kept_by r k ks q rest false false h e = rest

kept_only : (r : Rows) (ks : List Text) (q : Text) → is_among text_cmp (filter (is_kept r) ks) q ≡ (is_among text_cmp ks q && is_kept r q)
kept_only r [] q = refl
kept_only r (k ∷ ks) q = kept_by r k ks q (kept_only r ks q) (is_kept r k) (same_id q k) refl refl

pub parts_are : (r : Rows) (id q : Text) → is_among text_cmp (parts_of r id) q ≡ some_and (is_part id) (get r.txs q)
parts_are r id q = kept_only r (children_of r id) q ∙ ap (λ t. t && is_kept r q) (among-keys_where text_total text_same (is_child_of id) r.txs q) ∙ by (get r.txs q)
  where
    by : (o : Option TxRow) → (some_and (is_child_of id) o && some_and (λ x. not x.tombstone) o) ≡ some_and (is_part id) o
    by None = refl
    by (Some x) = refl
