-- An edit of an amount, and of that of the partner.
use Rattle.std.proofs.Common.{◌≡◌, Bool, true, false, cond, List, [], ◌∷◌, Some, None, refl, ap, sym, ◌∙◌, subst, arith}
use Rattle.std.specs.Prelude.{option_to_list}
use lib.IntN.{ℤ, neg_ℤ}
use Rattle.std.proofs.lemmas.Int.{ints}
use Rattle.std.specs.FinMap.{get}
use Rattle.finite_sums.specs.Maps.{Text, text_cmp, is_among}
use Rattle.field_values.specs.declared.value.Value.{Value}
use Rattle.field_values.specs.declared.value.Value.TheVariants.{Number}
use Rattle.book_rows.specs.declared.rows.Rows.{Rows}
use Rattle.book_rows.specs.declared.rows.TxRow.{TxRow}
use Rattle.split_transfer.specs.Pairs.{partner_of, share, parts_sum}
use Rattle.split_transfer.specs.After.{Ids, with_writes}
use Rattle.split_transfer.specs.Right.{IsLiveRow, ArePair, AreOpposite, StayRight}
use Rattle.split_transfer.proofs.Columns.{Amount, with_column, named, on_each}
use Rattle.split_transfer.proofs.Basics.{bool_cases, true_false, some_is, same_bool, of_cond, same_is, or_false}
use Rattle.split_transfer.proofs.Links.{SameLinks, links_trans, KeepsLinks, pairs_from, splits_from, pair_swap, AreThere, not_there, each_links, each_sums}
use Rattle.split_transfer.proofs.Single.{ArePlain, no_part, clash, is_row, partner_there, row_is_there, its_partner, its_row}
use Rattle.split_transfer.proofs.After.{each_row}

pub keeps_trans : (r m s : Rows) → KeepsLinks r m → KeepsLinks m s → ((q : Text) (x : TxRow) → get r.txs q ≡ Some x → (y : TxRow) × (get m.txs q ≡ Some y)) → KeepsLinks r s
keeps_trans r m s k j stay = record {
  rows = λ q x z here there. let w = stay q x here in links_trans x w.0 z (k.rows q x w.0 here w.1) (j.rows q w.0 z w.1 there);
  parents = λ q x p here up none. let w = stay q x here in j.parents q w.0 p w.1 ((k.rows q x w.0 here w.1).parent ∙ up) (k.parents q x p here up none);
}

amount_links : (v : Value) (x : TxRow) → SameLinks x (with_column Amount v x)
amount_links v x = record { transferred = refl; child = refl; parent = refl; alive = λ h. h }

-- one of two rows gets the amount, and the other one its negative, or neither
opposite_by : (z : ℤ) (v w : TxRow) (i j : Bool) → (i ≡ true → j ≡ true → ⊥) → AreOpposite v w
    → AreOpposite (cond j (with_column Amount (Number (neg_ℤ z)) (cond i (with_column Amount (Number z) v) v)) (cond i (with_column Amount (Number z) v) v))
    (cond i (with_column Amount (Number (neg_ℤ z)) (cond j (with_column Amount (Number z) w) w)) (cond j (with_column Amount (Number z) w) w))
opposite_by z v w true true differ right = absurd (differ refl refl)
opposite_by z v w true false differ right = record { amounts = omega (arith, ints); dates = right.dates }
opposite_by z v w false true differ right = record { amounts = omega (arith, ints); dates = right.dates }
opposite_by z v w false false differ right = right

module _ (ids : Ids) (r : Rows) (id : Text) (x : TxRow) (z : ℤ) (l : IsLiveRow r id x) (single : x.is_child ≡ false) (are : ArePlain r) (check : x.is_parent ≡ true → z ≡ parts_sum r id) where
  abbrev other : List Text
  other = option_to_list (partner_of r id x)

  abbrev mid : Rows
  mid = with_writes ids r (on_each Amount (Number z) (id ∷ []))

  abbrev last : Rows
  last = with_writes ids mid (on_each Amount (Number (neg_ℤ z)) other)

  abbrev at_mid : Text → TxRow → TxRow
  at_mid q v = cond (is_among text_cmp (id ∷ []) q) (with_column Amount (Number z) v) v

  abbrev at_last : Text → TxRow → TxRow
  at_last q v = cond (is_among text_cmp other q) (with_column Amount (Number (neg_ℤ z)) (at_mid q v)) (at_mid q v)

  mid_row : (q : Text) (v : TxRow) → get r.txs q ≡ Some v → get mid.txs q ≡ Some (at_mid q v)
  mid_row q v h = each_row ids r Amount (Number z) (id ∷ []) q v h

  last_row : (q : Text) (v : TxRow) → get r.txs q ≡ Some v → get last.txs q ≡ Some (at_last q v)
  last_row q v h = each_row ids mid Amount (Number (neg_ℤ z)) other q (at_mid q v) (mid_row q v h)

  are_mid : AreThere mid other
  are_mid = record { there = λ q t none. let w = partner_there r id x l q t in clash _ _ (mid_row q w.0 w.1.second.there) none }

  is_last : (q : Text) (v y : TxRow) → get r.txs q ≡ Some v → get last.txs q ≡ Some y → at_last q v ≡ y
  is_last q v y here there = some_is _ y (sym (last_row q v here) ∙ there)

  last_none : (q : Text) → get r.txs q ≡ None → get last.txs q ≡ None
  last_none q h = not_there ids mid Amount (Number (neg_ℤ z)) other are_mid q (not_there ids r Amount (Number z) (id ∷ []) (row_is_there r id x l) q h)

  links : KeepsLinks r last
  links = keeps_trans r mid last (each_links ids r Amount (Number z) (id ∷ []) (row_is_there r id x l) (amount_links (Number z)))
      (each_links ids mid Amount (Number (neg_ℤ z)) other are_mid (amount_links (Number (neg_ℤ z)))) (λ q v h. (at_mid q v, mid_row q v h))

  turns : (a b : Text) (v w : TxRow) → ArePair r a v b w → is_among text_cmp (id ∷ []) a ≡ is_among text_cmp other b
  turns a b v w p = same_bool _ _ (λ t. its_partner r id x l a b v w p (sym (or_false _) ∙ t)) (λ t. or_false _ ∙ its_row r id x l a b v w p t)

  apart : (a b : Text) (v w : TxRow) → ArePair r a v b w → is_among text_cmp (id ∷ []) a ≡ true → is_among text_cmp (id ∷ []) b ≡ true → ⊥
  apart a b v w p s t = p.apart (same_is a id (sym (or_false _) ∙ s) ∙ sym (same_is b id (sym (or_false _) ∙ t)))

  pair : (a b : Text) (v w : TxRow) → ArePair r a v b w → AreOpposite v w → AreOpposite (at_last a v) (at_last b w)
  pair a b v w p right =
      subst (λ j. AreOpposite (cond j (with_column Amount (Number (neg_ℤ z)) (at_mid a v)) (at_mid a v)) (at_last b w)) (turns b a w v (pair_swap r a b v w p))
      (subst (λ j. AreOpposite (cond (is_among text_cmp (id ∷ []) b) (with_column Amount (Number (neg_ℤ z)) (at_mid a v)) (at_mid a v)) (cond j (with_column Amount (Number (neg_ℤ z)) (at_mid b w)) (at_mid b w))) (turns a b v w p)
      (opposite_by z v w (is_among text_cmp (id ∷ []) a) (is_among text_cmp (id ∷ []) b) (apart a b v w p) right))

  no_partner : (id0 : Text) (v : TxRow) → get r.txs id0 ≡ Some v → v.is_parent ≡ true → is_among text_cmp other id0 ≡ false
  no_partner id0 v here up = bool_cases (is_among text_cmp other id0)
      (λ t. let w = partner_there r id x l id0 t in
      true_false v.is_parent up (ap (λ (y : TxRow). y.is_parent) (some_is v w.0 (sym here ∙ w.1.second.there)) ∙ (are.plain id0 id w.0 x (pair_swap r id id0 x w.0 w.1)).0))
      (λ f. f)

  mid_amount : (id0 : Text) (v : TxRow) → get r.txs id0 ≡ Some v → v.is_parent ≡ true → v.amount ≡ parts_sum r id0 → (b : Bool) → is_among text_cmp (id ∷ []) id0 ≡ b → (cond b (with_column Amount (Number z) v) v).amount ≡ parts_sum r id0
  mid_amount id0 v here up right true t =
      let e = sym (or_false _) ∙ t in
      check (ap (λ (y : TxRow). y.is_parent) (is_row r id x l id0 v e here) ∙ up) ∙ ap (parts_sum r) (sym (same_is id0 id e))
  mid_amount id0 v here up right false t = right

  unpaid : (c : Value) (id0 : Text) (y : TxRow) → y.is_child ≡ false → share id0 (with_column Amount c y) ≡ share id0 y
  unpaid c id0 y h = no_part id0 (with_column Amount c y) h ∙ sym (no_part id0 y h)

  sums : (id0 : Text) → parts_sum last id0 ≡ parts_sum r id0
  sums id0 =
      each_sums ids mid Amount (Number (neg_ℤ z)) other are_mid id0 (λ q y here t.
      let w = partner_there r id x l q t in
      unpaid (Number (neg_ℤ z)) id0 y (ap (λ (y : TxRow). y.is_child) (some_is y (at_mid q w.0) (sym here ∙ mid_row q w.0 w.1.second.there))
      ∙ of_cond (λ (y : TxRow). y.is_child) (is_among text_cmp (id ∷ []) q) w.0 (with_column Amount (Number z) w.0) refl
      ∙ (are.plain q id w.0 x (pair_swap r id q x w.0 w.1)).1))
      ∙ each_sums ids r Amount (Number z) (id ∷ []) (row_is_there r id x l) id0 (λ q y here t.
      unpaid (Number z) id0 y (ap (λ (y : TxRow). y.is_child) (sym (is_row r id x l q y (sym (or_false _) ∙ t) here)) ∙ single))

  same_parent : (q : Text) (v : TxRow) → (at_last q v).is_parent ≡ v.is_parent
  same_parent q v =
      of_cond (λ (y : TxRow). y.is_parent) (is_among text_cmp other q) (at_mid q v) (with_column Amount (Number (neg_ℤ z)) (at_mid q v)) refl
      ∙ of_cond (λ (y : TxRow). y.is_parent) (is_among text_cmp (id ∷ []) q) v (with_column Amount (Number z) v) refl

  pub amount_stays_right : StayRight r (with_writes ids r (named id Amount (Number z) ∷ on_each Amount (Number (neg_ℤ z)) (option_to_list (partner_of r id x))))
  amount_stays_right = record {
    pairs = pairs_from r last links
        (λ a b v w y t p right here there. subst (AreOpposite y) (is_last b w t p.second.there there) (subst (λ u. AreOpposite u (at_last b w)) (is_last a v y p.first.there here) (pair a b v w p right)))
        (λ a b v w none here there named. clash _ v here (last_none a none));
    splits = splits_from r last links
        (λ id0 v y ls here split right there.
        ap (λ (t : TxRow). t.amount) (sym (is_last id0 v y here there))
        ∙ ap (λ j. (cond j (with_column Amount (Number (neg_ℤ z)) (at_mid id0 v)) (at_mid id0 v)).amount) (no_partner id0 v here split.is_parent)
        ∙ mid_amount id0 v here split.is_parent right (is_among text_cmp (id ∷ []) id0) refl ∙ sym (sums id0))
        (λ id0 v y here there up. sym (same_parent id0 v) ∙ ap (λ (t : TxRow). t.is_parent) (is_last id0 v y here there) ∙ up)
        (λ id0 v none there. clash _ v there (last_none id0 none));
  }
