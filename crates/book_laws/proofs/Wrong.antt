-- Which lines are told of pairs and splits that are wrong.
use Rattle.std.proofs.Common.{◌≡◌, ◌≢◌, Bool, true, false, cond, List, [], ◌∷◌, ◌++◌, Option, Some, None, refl, sym, ap, ◌∙◌, subst}
use Rattle.std.specs.Prelude.{◌&&◌, not, is_some, flat_map, codes}
use Rattle.std.specs.Fmt.{signed_decimal}
use lib.IntN.{ℤ, pos, ◌+ℤ◌, ◌-ℤ◌}
use Rattle.std.specs.Ordering.{int_eq}
use Rattle.std.specs.FinMap.{get, find, is_sorted, entries, entries_sorted, get-entries}
use Rattle.std.proofs.lemmas.Bool.Decides.{Decides-int_eq}
use Rattle.std.proofs.lemmas.Bool.{eqb-true, eq-eqb}
use Rattle.finite_sums.specs.Maps.{Text, text_cmp, some_and}
use Rattle.finite_sums.proofs.Texts.{text_total, text_same}
use Rattle.finite_sums.proofs.MapSums.{sorted_tail, so}
use Rattle.book_rows.specs.declared.rows.Rows.{Rows}
use Rattle.book_rows.specs.declared.rows.TxRow.{TxRow}
use Rattle.book_rows.specs.Live.{is_live_tx}
use Rattle.book_edits.specs.Checks.{same_id}
use Rattle.split_transfer.specs.Pairs.{partner_of, parts_sum}
use Rattle.split_transfer.specs.Right.{IsLiveRow, ArePair, AreOpposite}
use Rattle.split_transfer.specs.Broken.{same_day, are_opposite, is_paired, transfer_line, split_line, told_transfer, told_split, told_of}
use Rattle.split_transfer.proofs.Basics.{bool_cases, both_true, true_false, none_some, some_is, same_refl, same_is, holds_some, and_both}
use Rattle.split_transfer.proofs.Links.{partner_is, partner_found}
use Rattle.split_transfer.proofs.SameSums.{absent}
use Rattle.book_laws.specs.Wrong.{IsWrongPair, IsWrongSplit, BrokenIsTold}

-- ---- what the tests mean

days : (a b : Option _) → same_day a b ≡ true → a ≡ b
days None None h = refl
days None (Some b) h = true_false true refl (sym h)
days (Some a) None h = true_false true refl (sym h)
days (Some a) (Some b) h = ap Some (eqb-true a b h)

opposite_is : (x y : TxRow) → are_opposite x y ≡ true → AreOpposite x y
opposite_is x y h =
    let both = both_true (int_eq (x.amount +ℤ y.amount) (pos 0)) (same_day x.date y.date) h in
    record { amounts = (Decides-int_eq (x.amount +ℤ y.amount) (pos 0)).0 both.0; dates = days x.date y.date both.1 }

day_itself : (a : Option _) → same_day a a ≡ true
day_itself None = refl
day_itself (Some a) = eq-eqb a a refl

is_opposite : (x y : TxRow) → AreOpposite x y → are_opposite x y ≡ true
is_opposite x y h = and_both _ _ ((Decides-int_eq (x.amount +ℤ y.amount) (pos 0)).1 h.amounts) (ap (same_day x.date) (sym h.dates) ∙ day_itself x.date)

module _ (rows : Rows) where
  paired_by : (a b : Text) (x y : TxRow) → ArePair rows a x b y → is_paired rows a x ≡ are_opposite x y
  paired_by a b x y p =
      ap (some_and (λ other. some_and (are_opposite x) (get rows.txs other))) (partner_found rows a x b y p) ∙ ap (some_and (are_opposite x)) p.second.there

  -- a transaction that is in a right pair
  right : (a b : Text) (x : TxRow) → IsLiveRow rows a x → x.transferred_id ≡ Some b → is_paired rows a x ≡ true → (y : TxRow) × ArePair rows a x b y × AreOpposite x y
  right a b x l named h =
      let w = holds_some (λ other. some_and (are_opposite x) (get rows.txs other)) (partner_of rows a x) h in
      let p = partner_is rows a x w.0 l w.1 in
      let same : w.0 ≡ b = some_is w.0 b (sym p.1.forth ∙ named) in
      let pair = subst (λ (t : Text). ArePair rows a x t p.0) same p.1 in
      (p.0, pair, opposite_is x p.0 (sym (paired_by a b x p.0 pair) ∙ h))

  -- what is told of the row of an id, by its pair and by its split
  of_pair : Text → Option TxRow → Text
  of_pair id None = []
  of_pair id (Some x) = cond (is_live_tx rows x) (told_transfer rows id x) []

  of_split : Text → Option TxRow → Text
  of_split id None = []
  of_split id (Some x) = cond (is_live_tx rows x) (told_split rows id x) []

  both_told : (id : Text) (x : TxRow) → told_of rows (id, x) ≡ of_pair id (Some x) ++ of_split id (Some x)
  unfolding of_pair of_split
  both_told id x = by (is_live_tx rows x)
    where
      by : (b : Bool) → cond b (told_transfer rows id x ++ told_split rows id x) [] ≡ cond b (told_transfer rows id x) [] ++ cond b (told_split rows id x) []
      by true = refl
      by false = refl

  -- the texts of all rows
  all_told : (es : List (Text × TxRow)) → is_sorted text_cmp es ≡ true → ((q : Text) (x : TxRow) → find text_cmp q es ≡ Some x → get rows.txs q ≡ Some x)
      → flat_map (told_of rows) es ≡ flat_map (λ e. of_pair e.0 (get rows.txs e.0) ++ of_split e.0 (get rows.txs e.0)) es
  all_told [] s found = refl
  all_told (e ∷ es) s found =
      let here = found e.0 e.1 (ap (λ b. cond b (Some e.1) (find text_cmp e.0 es)) (same_refl e.0)) in
      ap (λ t. t ++ flat_map (told_of rows) es) (both_told e.0 e.1 ∙ ap (λ o. of_pair e.0 o ++ of_split e.0 o) (sym here))
      ∙ ap (λ t. (of_pair e.0 (get rows.txs e.0) ++ of_split e.0 (get rows.txs e.0)) ++ t)
      (all_told es (sorted_tail text_total text_same e es s) (λ q x h. found q x (later q x h (same_id q e.0) refl)))
    where
      later : (q : Text) (x : TxRow) → find text_cmp q es ≡ Some x → (b : Bool) → same_id q e.0 ≡ b → cond b (Some e.1) (find text_cmp q es) ≡ Some x
      later q x h true t = none_some x (sym (ap (λ k. find text_cmp k es) (same_is q e.0 t) ∙ absent e.0 es (both_true _ _ s).0) ∙ h)
      later q x h false t = h

  -- ---- pairs

  live_told : (id : Text) (x : TxRow) → IsLiveRow rows id x → of_pair id (get rows.txs id) ≡ told_transfer rows id x
  unfolding of_pair
  live_told id x l = ap (of_pair id) l.there ∙ ap (λ b. cond b (told_transfer rows id x) []) l.live

  wrong_pair : (id : Text) → IsWrongPair rows id → of_pair id (get rows.txs id) ≡ transfer_line id
  wrong_pair id w = live_told id w.tx w.live ∙ ap (λ b. cond b (transfer_line id) []) (and_both _ _ (ap is_some w.names) (bool_cases (is_paired rows id w.tx)
      (λ t. absurd (let r = right id w.other w.tx w.live w.names t in w.wrong r.0 r.1 r.2))
      (λ f. ap not f)))

  right_pair : (id : Text) → (IsWrongPair rows id → ⊥) → of_pair id (get rows.txs id) ≡ []
  unfolding of_pair
  right_pair id never = by (get rows.txs id) refl
    where
      named : (x : TxRow) → IsLiveRow rows id x → (o : Option Text) → x.transferred_id ≡ o → (b : Bool) → is_paired rows id x ≡ b → cond (is_some o && not b) (transfer_line id) [] ≡ []
      named x l None e b p = refl
      named x l (Some other) e true p = refl
      named x l (Some other) e false p = absurd (never (record {
        tx = x;
        other = other;
        live = l;
        names = e;
        wrong = λ y pair opposite. true_false (is_paired rows id x) (paired_by id other x y pair ∙ is_opposite x y opposite) p;
      }))

      lives : (x : TxRow) → get rows.txs id ≡ Some x → (b : Bool) → is_live_tx rows x ≡ b → cond b (told_transfer rows id x) [] ≡ []
      lives x there true l = named x (record { there = there; live = l }) x.transferred_id refl (is_paired rows id x) refl
      lives x there false l = refl

      by : (o : Option TxRow) → get rows.txs id ≡ o → of_pair id o ≡ []
      by None e = refl
      by (Some x) e = lives x e (is_live_tx rows x) refl

  -- ---- splits

  not_zero : (z : ℤ) → z ≢ pos 0 → not (int_eq z (pos 0)) ≡ true
  not_zero z some = bool_cases (int_eq z (pos 0)) (λ t. absurd (some ((Decides-int_eq z (pos 0)).0 t))) (λ f. ap not f)

  wrong_split : (id : Text) (left : ℤ) (w : IsWrongSplit rows id left) → of_split id (get rows.txs id) ≡ split_line rows id w.tx
  unfolding of_split
  wrong_split id left w =
      ap (of_split id) w.split.parent.there ∙ ap (λ b. cond b (told_split rows id w.tx) []) w.split.parent.live
      ∙ ap (λ b. cond b (split_line rows id w.tx) []) (and_both _ _ w.split.is_parent (not_zero (w.tx.amount -ℤ parts_sum rows id) (λ e. w.some (w.rest ∙ e))))

  right_split : (id : Text) → ((left : ℤ) → IsWrongSplit rows id left → ⊥) → of_split id (get rows.txs id) ≡ []
  unfolding of_split
  right_split id never = by (get rows.txs id) refl
    where
      parent : (x : TxRow) → IsLiveRow rows id x → (p z : Bool) → x.is_parent ≡ p → int_eq (x.amount -ℤ parts_sum rows id) (pos 0) ≡ z → cond (p && not z) (split_line rows id x) [] ≡ []
      parent x l false z e f = refl
      parent x l true true e f = refl
      parent x l true false e f = absurd (never (x.amount -ℤ parts_sum rows id) (record {
        tx = x;
        split = record { parent = l; is_parent = e };
        rest = refl;
        some = λ same. true_false (int_eq (x.amount -ℤ parts_sum rows id) (pos 0)) ((Decides-int_eq (x.amount -ℤ parts_sum rows id) (pos 0)).1 same) f;
      }))

      lives : (x : TxRow) → get rows.txs id ≡ Some x → (b : Bool) → is_live_tx rows x ≡ b → cond b (told_split rows id x) [] ≡ []
      lives x there true l = parent x (record { there = there; live = l }) x.is_parent (int_eq (x.amount -ℤ parts_sum rows id) (pos 0)) refl refl
      lives x there false l = refl

      by : (o : Option TxRow) → get rows.txs id ≡ o → of_split id o ≡ []
      by None e = refl
      by (Some x) e = lives x e (is_live_tx rows x) refl

pub broken_told : (rows : Rows) → BrokenIsTold rows
broken_told rows = record {
  pair = λ id. of_pair rows id (get rows.txs id);
  split = λ id. of_split rows id (get rows.txs id);
  told = all_told rows (entries rows.txs) (so _ (entries_sorted rows.txs)) (λ q x h. get-entries rows.txs q ∙ h);
  wrong_pair = wrong_pair rows;
  right_pair = right_pair rows;
  wrong_split = λ id left w. wrong_split rows id left w ∙ ap (λ z. codes "split " ++ id ++ codes " " ++ signed_decimal z ++ (10 ∷ [])) (sym w.rest);
  right_split = right_split rows;
}
