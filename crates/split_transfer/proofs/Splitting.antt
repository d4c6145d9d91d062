-- A split, which deletes the earlier parts and makes new ones.
use Rattle.std.proofs.Common.{◌≡◌, ℕ, ◌+◌, Bool, true, false, cond, List, [], ◌∷◌, length, Some, None, refl, ap, sym, ◌∙◌, subst, arith}
use Rattle.std.specs.Prelude.{◌≢◌, ◌&&◌, ◌||◌, not}
use lib.IntN.{pos, ◌+ℤ◌}
use Rattle.std.proofs.lemmas.Int.{ints}
use Rattle.std.specs.FinMap.{get}
use Rattle.finite_sums.specs.Sums.{total, only_if}
use Rattle.finite_sums.specs.Maps.{Text, text_cmp, some_and, is_among}
use Rattle.field_values.specs.declared.value.Value.{Value}
use Rattle.field_values.specs.declared.value.Value.TheVariants.{Null, Number}
use Rattle.book_rows.specs.declared.rows.Rows.{Rows}
use Rattle.book_rows.specs.declared.rows.TxRow.{TxRow}
use Rattle.book_rows.specs.Parts.{is_text}
use Rattle.book_edits.specs.Checks.{same_id}
use Rattle.split_transfer.specs.declared.edit.SplitPart.{SplitPart}
use Rattle.split_transfer.specs.Pairs.{is_part, parts_of, share, parts_sum}
use Rattle.split_transfer.specs.After.{Ids, with_writes, makes}
use Rattle.split_transfer.specs.Right.{IsLiveRow, AreOpposite, IsSplit, SplitsStayRight, StayRight}
use Rattle.split_transfer.proofs.Columns.{TxColumn, Category, IsParent, Tombstone, with_column, on_each}
use Rattle.split_transfer.proofs.Basics.{bool_cases, option_cases, both_true, true_false, none_some, some_is, of_cond, same_refl, same_is, not_same, is_other, names_is, or_false}
use Rattle.split_transfer.proofs.Links.{SameLinks, same_links, links_trans, KeepsLinks, was_live, pairs_from, AreThere, not_there, each_sums, parts_are}
use Rattle.split_transfer.proofs.Single.{clash, row_there, parts_are_there, deleted}
use Rattle.split_transfer.proofs.After.{each_row}
use Rattle.split_transfer.proofs.SameSums.{total_of-zero}
use Rattle.split_transfer.specs.Splits.{parts_writes}
use Rattle.split_transfer.proofs.Children.{AreNew, kept, untouched, made_is_bare, sum_parts}

parent_links : (v : Value) (x : TxRow) → SameLinks x (with_column IsParent v x)
parent_links v x = record { transferred = refl; child = refl; parent = refl; alive = λ h. h }

category_links : (v : Value) (x : TxRow) → SameLinks x (with_column Category v x)
category_links v x = record { transferred = refl; child = refl; parent = refl; alive = λ h. h }

by_links : (c : TxColumn) (v : Value) → ((x : TxRow) → SameLinks x (with_column c v x)) → (x : TxRow) (b : Bool) → SameLinks x (cond b (with_column c v x) x)
by_links c v same x true = same x
by_links c v same x false = same_links x

module _ (ids : Ids) (r : Rows) (id : Text) (x : TxRow) (ps : List SplitPart) (l : IsLiveRow r id x)
    (balanced : x.amount ≡ total (λ (p : SplitPart). p.amount) ps) (new : AreNew ids r (parts_writes (length (parts_of r id) + 2) id x ps))
    (childless : (k : ℕ) (q : Text) (v : TxRow) → makes (parts_writes (length (parts_of r id) + 2) id x ps) k ≡ true → get r.txs q ≡ Some v → v.parent_id ≢ Some (ids k)) where
  abbrev one : Rows
  one = with_writes ids r (on_each Tombstone (Number (pos 1)) (parts_of r id))

  abbrev two : Rows
  two = with_writes ids one (on_each IsParent (Number (pos 1)) (id ∷ []))

  abbrev three : Rows
  three = with_writes ids two (on_each Category Null (id ∷ []))

  abbrev last : Rows
  last = with_writes ids three (parts_writes (length (parts_of r id) + 2) id x ps)

  abbrev at_one : Text → TxRow → TxRow
  at_one q v = cond (is_among text_cmp (parts_of r id) q) (with_column Tombstone (Number (pos 1)) v) v

  abbrev at_two : Text → TxRow → TxRow
  at_two q v = cond (is_among text_cmp (id ∷ []) q) (with_column IsParent (Number (pos 1)) (at_one q v)) (at_one q v)

  abbrev at_three : Text → TxRow → TxRow
  at_three q v = cond (is_among text_cmp (id ∷ []) q) (with_column Category Null (at_two q v)) (at_two q v)

  row_one : (q : Text) (v : TxRow) → get r.txs q ≡ Some v → get one.txs q ≡ Some (at_one q v)
  row_one q v h = each_row ids r Tombstone (Number (pos 1)) (parts_of r id) q v h

  row_two : (q : Text) (v : TxRow) → get r.txs q ≡ Some v → get two.txs q ≡ Some (at_two q v)
  row_two q v h = each_row ids one IsParent (Number (pos 1)) (id ∷ []) q (at_one q v) (row_one q v h)

  row_three : (q : Text) (v : TxRow) → get r.txs q ≡ Some v → get three.txs q ≡ Some (at_three q v)
  row_three q v h = each_row ids two Category Null (id ∷ []) q (at_two q v) (row_two q v h)

  parts_there : AreThere r (parts_of r id)
  parts_there = parts_are_there r id x l

  one_there : AreThere one (id ∷ [])
  one_there = record { there = λ q t none. clash _ _ (row_one q x (row_there r id x l q (sym (or_false _) ∙ t))) none }

  two_there : AreThere two (id ∷ [])
  two_there = record { there = λ q t none. clash _ _ (row_two q x (row_there r id x l q (sym (or_false _) ∙ t))) none }

  none_three : (q : Text) → get r.txs q ≡ None → get three.txs q ≡ None
  none_three q h = not_there ids two Category Null (id ∷ []) two_there q (not_there ids one IsParent (Number (pos 1)) (id ∷ []) one_there q (not_there ids r Tombstone (Number (pos 1)) (parts_of r id) parts_there q h))

  new_three : AreNew ids three (parts_writes (length (parts_of r id) + 2) id x ps)
  new_three = record { new = λ k h. none_three (ids k) (new.new k h); different = new.different }

  last_row : (q : Text) (v : TxRow) → get r.txs q ≡ Some v → get last.txs q ≡ Some (at_three q v)
  last_row q v h = kept ids id x ps (length (parts_of r id) + 2) three q (at_three q v) new_three (row_three q v h)

  is_last : (q : Text) (v y : TxRow) → get r.txs q ≡ Some v → get last.txs q ≡ Some y → at_three q v ≡ y
  is_last q v y here there = some_is _ y (sym (last_row q v here) ∙ there)

  made_bare : (q : Text) (y : TxRow) → get r.txs q ≡ None → get last.txs q ≡ Some y → (y.transferred_id ≡ None) × (y.is_parent ≡ false)
  made_bare q y none there = made_is_bare ids id x ps (length (parts_of r id) + 2) three q y (none_three q none) there

  links_three : (q : Text) (v : TxRow) → SameLinks v (at_three q v)
  links_three q v =
      links_trans v (at_two q v) (at_three q v)
      (links_trans v (at_one q v) (at_two q v) (by_links Tombstone (Number (pos 1)) deleted v (is_among text_cmp (parts_of r id) q))
      (by_links IsParent (Number (pos 1)) (parent_links (Number (pos 1))) (at_one q v) (is_among text_cmp (id ∷ []) q)))
      (by_links Category Null (category_links Null) (at_two q v) (is_among text_cmp (id ∷ []) q))

  links : KeepsLinks r last
  links = record {
    rows = λ q v y here there. subst (SameLinks v) (is_last q v y here there) (links_three q v);
    parents = λ q v p here up none.
        untouched ids id x ps (length (parts_of r id) + 2) three p (λ k t e. childless k q v t here (up ∙ ap Some e)) ∙ none_three p none;
  }

  -- what a column that is not written keeps
  same : {A : Type 0} (f : TxRow → A) → ((v : TxRow) → f (with_column Tombstone (Number (pos 1)) v) ≡ f v) → ((v : TxRow) → f (with_column IsParent (Number (pos 1)) v) ≡ f v)
      → ((v : TxRow) → f (with_column Category Null v) ≡ f v) → (q : Text) (v : TxRow) → f (at_three q v) ≡ f v
  same f a b c q v =
      of_cond f (is_among text_cmp (id ∷ []) q) (at_two q v) (with_column Category Null (at_two q v)) (c (at_two q v))
      ∙ of_cond f (is_among text_cmp (id ∷ []) q) (at_one q v) (with_column IsParent (Number (pos 1)) (at_one q v)) (b (at_one q v))
      ∙ of_cond f (is_among text_cmp (parts_of r id) q) v (with_column Tombstone (Number (pos 1)) v) (a v)

  same_amount : (q : Text) (v : TxRow) → (at_three q v).amount ≡ v.amount
  same_amount = same (λ v. v.amount) (λ v. refl) (λ v. refl) (λ v. refl)

  same_date : (q : Text) (v : TxRow) → (at_three q v).date ≡ v.date
  same_date = same (λ v. v.date) (λ v. refl) (λ v. refl) (λ v. refl)

  pair : (a b : Text) (v w : TxRow) → AreOpposite v w → AreOpposite (at_three a v) (at_three b w)
  pair a b v w right = record {
    amounts = ap (λ z. z +ℤ (at_three b w).amount) (same_amount a v) ∙ ap (λ z. v.amount +ℤ z) (same_amount b w) ∙ right.amounts;
    dates = same_date a v ∙ right.dates ∙ sym (same_date b w);
  }

  -- no other row becomes a parent
  other_parent : (q : Text) (v : TxRow) → same_id q id ≡ false → (at_three q v).is_parent ≡ v.is_parent
  other_parent q v h =
      of_cond (λ (y : TxRow). y.is_parent) (is_among text_cmp (id ∷ []) q) (at_two q v) (with_column Category Null (at_two q v)) refl
      ∙ ap (λ b. (cond (b || false) (with_column IsParent (Number (pos 1)) (at_one q v)) (at_one q v)).is_parent) h
      ∙ of_cond (λ (y : TxRow). y.is_parent) (is_among text_cmp (parts_of r id) q) v (with_column Tombstone (Number (pos 1)) v) refl

  sums_three : (other : Text) → parts_sum three other ≡ parts_sum one other
  sums_three other =
      each_sums ids two Category Null (id ∷ []) two_there other (λ q y here t. refl)
      ∙ each_sums ids one IsParent (Number (pos 1)) (id ∷ []) one_there other (λ q y here t. refl)

  gone : (other : Text) (v : TxRow) → share other (with_column Tombstone (Number (pos 1)) v) ≡ pos 0
  gone other v = by (v.is_child && is_text other v.parent_id)
    where
      by : (b : Bool) → only_if (b && false) v.amount ≡ pos 0
      by true = refl
      by false = refl

  not_part : (other : Text) (v : TxRow) → is_part other v ≡ false → share other v ≡ pos 0
  not_part other v h = ap (λ b. only_if b v.amount) h

  -- the earlier parts are gone
  no_sum : parts_sum one id ≡ pos 0
  no_sum = total_of-zero (share id) one.txs (λ q y there. option_cases (get r.txs q)
      (λ none. clash _ y there (not_there ids r Tombstone (Number (pos 1)) (parts_of r id) parts_there q none))
      (λ v here. ap (share id) (sym (some_is _ y (sym (row_one q v here) ∙ there))) ∙ by q v here (is_among text_cmp (parts_of r id) q) refl))
    where
      by : (q : Text) (v : TxRow) → get r.txs q ≡ Some v → (b : Bool) → is_among text_cmp (parts_of r id) q ≡ b → share id (cond b (with_column Tombstone (Number (pos 1)) v) v) ≡ pos 0
      by q v here true t = gone id v
      by q v here false t = not_part id v (sym (parts_are r id q ∙ ap (some_and (is_part id)) here) ∙ t)

  -- a part of this row is no part of another one
  other_part : (other : Text) (v : TxRow) → same_id id other ≡ false → is_part id v ≡ true → share other v ≡ pos 0
  other_part other v apart h =
      let named = names_is v.parent_id id (both_true _ _ (both_true _ _ h).0).1 in
      ap (λ p. only_if ((v.is_child && is_text other p) && not v.tombstone) v.amount) named ∙ ap (λ b. only_if ((v.is_child && b) && not v.tombstone) v.amount) apart ∙ by v.is_child
    where
      by : (b : Bool) → only_if ((b && false) && not v.tombstone) v.amount ≡ pos 0
      by true = refl
      by false = refl

  sums_one : (other : Text) → same_id id other ≡ false → parts_sum one other ≡ parts_sum r other
  sums_one other apart = each_sums ids r Tombstone (Number (pos 1)) (parts_of r id) parts_there other (λ q y here t.
      gone other y ∙ sym (other_part other y apart (sym (parts_are r id q ∙ ap (some_and (is_part id)) here) ∙ t)))

  sums_last : (other : Text) → parts_sum last other ≡ parts_sum one other +ℤ only_if (same_id id other) (total (λ (p : SplitPart). p.amount) ps)
  sums_last other = sum_parts ids id x ps (length (parts_of r id) + 2) three other new_three ∙ ap (λ z. z +ℤ only_if (same_id id other) (total (λ (p : SplitPart). p.amount) ps)) (sums_three other)

  own_sum : parts_sum last id ≡ x.amount
  own_sum =
      let a = sums_last id in
      let b : only_if (same_id id id) (total (λ (p : SplitPart). p.amount) ps) ≡ total (λ (p : SplitPart). p.amount) ps = ap (λ t. only_if t (total (λ (p : SplitPart). p.amount) ps)) (same_refl id) in
      omega (arith, ints, a, b, no_sum, balanced)

  other_sum : (other : Text) → same_id id other ≡ false → parts_sum last other ≡ parts_sum r other
  other_sum other apart =
      let a = sums_last other in
      let b : only_if (same_id id other) (total (λ (p : SplitPart). p.amount) ps) ≡ pos 0 = ap (λ t. only_if t (total (λ (p : SplitPart). p.amount) ps)) apart in
      omega (arith, ints, a, b, sums_one other apart)

  flip : (a b : Text) → same_id a b ≡ false → same_id b a ≡ false
  flip a b h = not_same b a (λ e. is_other a b h (sym e))

  splits : SplitsStayRight r last
  splits id0 y p before = bool_cases (same_id id0 id) same_row other_row
    where
      same_row : same_id id0 id ≡ true → y.amount ≡ parts_sum last id0
      same_row t =
          let e = same_is id0 id t in
          ap (λ (t : TxRow). t.amount) (sym (is_last id0 x y (row_there r id x l id0 t) p.parent.there)) ∙ same_amount id0 x ∙ sym own_sum ∙ ap (parts_sum last) (sym e)

      other_row : same_id id0 id ≡ false → y.amount ≡ parts_sum last id0
      other_row f = option_cases (get r.txs id0)
          (λ none. true_false y.is_parent p.is_parent (made_bare id0 y none p.parent.there).1)
          (λ v here.
          let e = is_last id0 v y here p.parent.there in
          let up = sym (other_parent id0 v f) ∙ ap (λ (t : TxRow). t.is_parent) e ∙ p.is_parent in
          let split : IsSplit r id0 v = record { parent = record { there = here; live = was_live r last links id0 v y here p.parent.there p.parent.live }; is_parent = up } in
          ap (λ (t : TxRow). t.amount) (sym e) ∙ same_amount id0 v ∙ before v split ∙ sym (other_sum id0 (flip id0 id f)))

  pub split_stays_right : StayRight r last
  split_stays_right = record {
    pairs = pairs_from r last links
        (λ a b v w y t p right here there. subst (AreOpposite y) (is_last b w t p.second.there there) (subst (λ u. AreOpposite u (at_three b w)) (is_last a v y p.first.there here) (pair a b v w right)))
        (λ a b v w none here there named. none_some b (sym (made_bare a v none here).0 ∙ named));
    splits = splits;
  }
