-- Edits of a date, a category or an amount, and deletions.
use Rattle.std.proofs.Common.{◌≡◌, Bool, true, false, cond, List, [], ◌∷◌, ◌++◌, Option, Some, None, refl, ap, sym, ◌∙◌, subst}
use Rattle.std.specs.Prelude.{◌&&◌, not, option_to_list}
use lib.IntN.{pos, ◌+ℤ◌}
use Rattle.std.specs.FinMap.{get}
use Rattle.finite_sums.specs.Sums.{only_if}
use Rattle.finite_sums.specs.Maps.{Text, text_cmp, some_and, is_among}
use Rattle.field_values.specs.declared.value.Value.{Value}
use Rattle.field_values.specs.declared.value.Value.TheVariants.{Number}
use Rattle.book_rows.specs.declared.rows.Rows.{Rows}
use Rattle.book_rows.specs.declared.rows.TxRow.{TxRow}
use Rattle.book_rows.specs.Parts.{is_text}
use Rattle.book_edits.specs.Checks.{same_id}
use Rattle.split_transfer.specs.Pairs.{partner_of, is_part, parts_of, share, parts_sum}
use Rattle.split_transfer.specs.After.{Ids, with_writes}
use Rattle.split_transfer.specs.Right.{IsLiveRow, ArePair, AreOpposite, IsSplit, PairsStayRight, SplitsStayRight, StayRight}
use Rattle.split_transfer.proofs.Columns.{TxColumn, Date, Tombstone, with_column, on_each}
use Rattle.split_transfer.proofs.Basics.{both_true, either, or_left, or_right, true_false, none_some, some_is, same_bool, same_refl, same_is, among-append, among-option_to_list, or_false}
use Rattle.split_transfer.proofs.Links.{SameLinks, pairs_from, splits_from, pair_swap, partner_is, partner_found, AreThere, not_there, each_links, each_sums, parts_are}
use Rattle.split_transfer.proofs.After.{each_row}

-- no part of a pair is a parent or a child
pub record ArePlain (r : Rows) : Type 0 where
  pub plain : (a b : Text) (x y : TxRow) → ArePair r a x b y → (x.is_parent ≡ false) × (x.is_child ≡ false)

pub no_part : (id : Text) (x : TxRow) → x.is_child ≡ false → share id x ≡ pos 0
no_part id x h = ap (λ b. only_if ((b && is_text id x.parent_id) && not x.tombstone) x.amount) h

pub clash : {X P : Type 0} (o : Option X) (x : X) → o ≡ Some x → o ≡ None → P
clash o x s n = none_some x (sym n ∙ s)

-- ---- one value in one column of rows that are there

module _ (ids : Ids) (r : Rows) (c : TxColumn) (v : Value) (ts : List Text) (are : AreThere r ts) (same : (x : TxRow) → SameLinks x (with_column c v x)) where
  row_is : (q : Text) (x y : TxRow) → get r.txs q ≡ Some x → get (with_writes ids r (on_each c v ts)).txs q ≡ Some y → cond (is_among text_cmp ts q) (with_column c v x) x ≡ y
  row_is q x y here there = some_is _ y (sym (each_row ids r c v ts q x here) ∙ there)

  pub each_pairs : ((a b : Text) (x y : TxRow) → ArePair r a x b y → AreOpposite x y
      → AreOpposite (cond (is_among text_cmp ts a) (with_column c v x) x) (cond (is_among text_cmp ts b) (with_column c v y) y))
      → PairsStayRight r (with_writes ids r (on_each c v ts))
  each_pairs k = pairs_from r (with_writes ids r (on_each c v ts)) (each_links ids r c v ts are same)
      (λ a b x y z w p right here there.
      subst (AreOpposite z) (row_is b y w p.second.there there) (subst (λ t. AreOpposite t (cond (is_among text_cmp ts b) (with_column c v y) y)) (row_is a x z p.first.there here) (k a b x y p right)))
      (λ a b x y none here there named. clash _ x here (not_there ids r c v ts are a none))

  pub each_splits : ((id : Text) (x : TxRow) → IsSplit r id x → (with_column c v x).amount ≡ x.amount)
      → ((x : TxRow) → (with_column c v x).is_parent ≡ x.is_parent)
      → ((id : Text) → parts_sum (with_writes ids r (on_each c v ts)) id ≡ parts_sum r id)
      → SplitsStayRight r (with_writes ids r (on_each c v ts))
  each_splits amount parent sums = splits_from r (with_writes ids r (on_each c v ts)) (each_links ids r c v ts are same)
      (λ id x z l here split right there. ap (λ (t : TxRow). t.amount) (sym (row_is id x z here there)) ∙ amounts id x split (is_among text_cmp ts id) ∙ right ∙ sym (sums id))
      (λ id x z here there up. sym (parents x (is_among text_cmp ts id)) ∙ ap (λ (t : TxRow). t.is_parent) (row_is id x z here there) ∙ up)
      (λ id x none there. clash _ x there (not_there ids r c v ts are id none))
    where
      amounts : (id : Text) (x : TxRow) → IsSplit r id x → (b : Bool) → (cond b (with_column c v x) x).amount ≡ x.amount
      amounts id x split true = amount id x split
      amounts id x split false = refl

      parents : (x : TxRow) (b : Bool) → (cond b (with_column c v x) x).is_parent ≡ x.is_parent
      parents x true = parent x
      parents x false = refl

-- ---- the rows of a live row, its parts and its partner

module _ (r : Rows) (id : Text) (x : TxRow) (l : IsLiveRow r id x) where
  pub row_there : (q : Text) → same_id q id ≡ true → get r.txs q ≡ Some x
  row_there q e = ap (get r.txs) (same_is q id e) ∙ l.there

  pub is_row : (q : Text) (y : TxRow) → same_id q id ≡ true → get r.txs q ≡ Some y → x ≡ y
  is_row q y e h = some_is x y (sym (row_there q e) ∙ h)

  parts_there : (q : Text) → is_among text_cmp (parts_of r id) q ≡ true → get r.txs q ≡ None → ⊥
  parts_there q t none = true_false (is_among text_cmp (parts_of r id) q) t (parts_are r id q ∙ ap (some_and (is_part id)) none)

  pub partner_there : (q : Text) → is_among text_cmp (option_to_list (partner_of r id x)) q ≡ true → (y : TxRow) × ArePair r id x q y
  partner_there q t = partner_is r id x q l (among-option_to_list (partner_of r id x) q t)

  is_partner : (q : Text) → is_among text_cmp (option_to_list (partner_of r id x)) q ≡ true → get r.txs q ≡ None → ⊥
  is_partner q t none = let w = partner_there q t in clash _ w.0 w.1.second.there none

  pub parts_are_there : AreThere r (parts_of r id)
  parts_are_there = record { there = parts_there }

  pub some_are_there : AreThere r (id ∷ parts_of r id)
  some_are_there = record { there = λ q t none. either _ _ t (λ e. clash _ x (row_there q e) none) (λ p. parts_there q p none) }

  pub partner_is_there : AreThere r (option_to_list (partner_of r id x))
  partner_is_there = record { there = is_partner }

  pub row_is_there : AreThere r (id ∷ [])
  row_is_there = record { there = λ q t none. clash _ x (row_there q (sym (or_false _) ∙ t)) none }

  pub both_are_there : AreThere r (id ∷ option_to_list (partner_of r id x))
  both_are_there = record { there = λ q t none. either _ _ t (λ e. clash _ x (row_there q e) none) (λ p. is_partner q p none) }

  pub all_are_there : AreThere r (id ∷ parts_of r id ++ option_to_list (partner_of r id x))
  all_are_there = record {
    there = λ q t none. either _ _ t (λ e. clash _ x (row_there q e) none)
        (λ m. either _ _ (sym (among-append (parts_of r id) (option_to_list (partner_of r id x)) q) ∙ m) (λ p. parts_there q p none) (λ p. is_partner q p none));
  }

  -- the row of a pair is the edited one exactly where the other row is its partner
  pub its_partner : (a b : Text) (v w : TxRow) → ArePair r a v b w → same_id a id ≡ true → is_among text_cmp (option_to_list (partner_of r id x)) b ≡ true
  its_partner a b v w p e =
      let q : ArePair r id v b w = subst (λ (t : Text). ArePair r t v b w) (same_is a id e) p in
      let h : partner_of r id x ≡ Some b = ap (partner_of r id) (is_row a v e p.first.there) ∙ partner_found r id v b w q in
      ap (λ o. is_among text_cmp (option_to_list o) b) h ∙ or_left _ _ (same_refl b)

  pub its_row : (a b : Text) (v w : TxRow) → ArePair r a v b w → is_among text_cmp (option_to_list (partner_of r id x)) b ≡ true → same_id a id ≡ true
  its_row a b v w p t =
      let m = partner_there b t in
      let same : m.0 ≡ w = some_is m.0 w (sym m.1.second.there ∙ p.second.there) in
      let e : Some a ≡ Some id = sym p.back ∙ ap (λ (z : TxRow). z.transferred_id) (sym same) ∙ m.1.back in
      ap (λ t. same_id t id) (some_is a id e) ∙ same_refl id

-- ---- the date

date_links : (v : Value) (x : TxRow) → SameLinks x (with_column Date v x)
date_links v x = record { transferred = refl; child = refl; parent = refl; alive = λ h. h }

dates_alike : (v : Value) (x y : TxRow) (i j : Bool) → i ≡ j → AreOpposite x y → AreOpposite (cond i (with_column Date v x) x) (cond j (with_column Date v y) y)
dates_alike v x y true true h right = record { amounts = right.amounts; dates = refl }
dates_alike v x y false false h right = right
dates_alike v x y true false h right = true_false true refl h
dates_alike v x y false true h right = true_false true refl (sym h)

module _ (ids : Ids) (r : Rows) (id : Text) (x : TxRow) (v : Value) (l : IsLiveRow r id x) (are : ArePlain r) where
  together : (a b : Text) (y z : TxRow) → ArePair r a y b z → is_among text_cmp (id ∷ parts_of r id ++ option_to_list (partner_of r id x)) a ≡ true → is_among text_cmp (id ∷ parts_of r id ++ option_to_list (partner_of r id x)) b ≡ true
  together a b y z p t =
      either _ _ t
      (λ e. or_right _ _ (among-append (parts_of r id) (option_to_list (partner_of r id x)) b ∙ or_right _ _ (its_partner r id x l a b y z p e)))
      (λ m. either _ _ (sym (among-append (parts_of r id) (option_to_list (partner_of r id x)) a) ∙ m)
      (λ child. true_false y.is_child (both_true _ _ (both_true _ _ (sym (parts_are r id a ∙ ap (some_and (is_part id)) p.first.there) ∙ child)).0).0 (are.plain a b y z p).1)
      (λ other. or_left _ _ (its_row r id x l b a z y (pair_swap r a b y z p) other)))

  pub date_stays_right : StayRight r (with_writes ids r (on_each Date v (id ∷ parts_of r id ++ option_to_list (partner_of r id x))))
  date_stays_right = record {
    pairs = each_pairs ids r Date v ts (all_are_there r id x l) (date_links v) (λ a b y z p right.
        dates_alike v y z _ _ (same_bool _ _ (together a b y z p) (together b a z y (pair_swap r a b y z p))) right);
    splits = each_splits ids r Date v ts (all_are_there r id x l) (date_links v) (λ id x split. refl) (λ x. refl)
        (λ other. each_sums ids r Date v ts (all_are_there r id x l) other (λ q y here t. refl));
  }
    where
      ts : List Text
      ts = id ∷ parts_of r id ++ option_to_list (partner_of r id x)

-- ---- other columns

pub unmoved : (c : TxColumn) (v : Value) → ((x : TxRow) → ((with_column c v x).amount ≡ x.amount) × ((with_column c v x).date ≡ x.date)) → (x y : TxRow) (i j : Bool) → AreOpposite x y → AreOpposite (cond i (with_column c v x) x) (cond j (with_column c v y) y)
unmoved c v h x y i j right = record {
  amounts = ap (λ z. z +ℤ (cond j (with_column c v y) y).amount) (amounts x i) ∙ ap (λ z. x.amount +ℤ z) (amounts y j) ∙ right.amounts;
  dates = dates x i ∙ right.dates ∙ sym (dates y j);
}
  where
    amounts : (x : TxRow) (b : Bool) → (cond b (with_column c v x) x).amount ≡ x.amount
    amounts x true = (h x).0
    amounts x false = refl

    dates : (x : TxRow) (b : Bool) → (cond b (with_column c v x) x).date ≡ x.date
    dates x true = (h x).1
    dates x false = refl

pub column_stays_right : (ids : Ids) (r : Rows) (c : TxColumn) (v : Value) (ts : List Text) → AreThere r ts → ((x : TxRow) → SameLinks x (with_column c v x))
    → ((x : TxRow) → ((with_column c v x).amount ≡ x.amount) × ((with_column c v x).date ≡ x.date)) → ((x : TxRow) → (with_column c v x).is_parent ≡ x.is_parent)
    → ((other : Text) (x : TxRow) → share other (with_column c v x) ≡ share other x) → StayRight r (with_writes ids r (on_each c v ts))
column_stays_right ids r c v ts there links same parent shares = record {
  pairs = each_pairs ids r c v ts there links (λ a b y z p right. unmoved c v same y z _ _ right);
  splits = each_splits ids r c v ts there links (λ id x split. (same x).0) parent (λ other. each_sums ids r c v ts there other (λ q y here t. shares other y));
}

-- ---- deletion

pub deleted : (x : TxRow) → SameLinks x (with_column Tombstone (Number (pos 1)) x)
deleted x = record { transferred = refl; child = refl; parent = refl; alive = λ h. true_false true refl h }

pub deletion_stays_right : (ids : Ids) (r : Rows) (id : Text) (x : TxRow) → IsLiveRow r id x → x.is_child ≡ false → ArePlain r
    → StayRight r (with_writes ids r (on_each Tombstone (Number (pos 1)) (id ∷ option_to_list (partner_of r id x))))
deletion_stays_right ids r id x l single are = record {
  pairs = each_pairs ids r Tombstone (Number (pos 1)) ts there deleted (λ a b y z p right. unmoved Tombstone (Number (pos 1)) (λ x. (refl, refl)) y z _ _ right);
  splits = each_splits ids r Tombstone (Number (pos 1)) ts there deleted (λ id x split. refl) (λ x. refl)
      (λ other. each_sums ids r Tombstone (Number (pos 1)) ts there other (λ q y here t.
      let c = no_child q y here t in no_part other (with_column Tombstone (Number (pos 1)) y) c ∙ sym (no_part other y c)));
}
  where
    ts : List Text
    ts = id ∷ option_to_list (partner_of r id x)

    there : AreThere r (id ∷ option_to_list (partner_of r id x))
    there = both_are_there r id x l

    no_child : (q : Text) (y : TxRow) → get r.txs q ≡ Some y → is_among text_cmp (id ∷ option_to_list (partner_of r id x)) q ≡ true → y.is_child ≡ false
    no_child q y here t = either _ _ t
        (λ e. ap (λ (z : TxRow). z.is_child) (sym (is_row r id x l q y e here)) ∙ single)
        (λ p. let w = partner_there r id x l q p in
        ap (λ (z : TxRow). z.is_child) (some_is y w.0 (sym here ∙ w.1.second.there)) ∙ (are.plain q id w.0 x (pair_swap r id q x w.0 w.1)).1)
