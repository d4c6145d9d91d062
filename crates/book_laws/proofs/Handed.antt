-- What ids stand for where rows of mappings get another target.
use Rattle.std.proofs.Common.{◌≡◌, true, false, cond, List, [], ◌∷◌, ◌++◌, Option, None, Some, refl, ap, sym, ◌∙◌}
use Rattle.std.specs.Prelude.{◌≢◌, ◌&&◌, ◌||◌, not, unwrap_or}
use Rattle.std.specs.Option.{option_map}
use Rattle.std.specs.FinMap.{get, entries}
use Rattle.finite_sums.specs.Maps.{Text, Texts, text_cmp, some_and, is_among, keys_where}
use Rattle.finite_sums.proofs.Texts.{text_total, text_same}
use Rattle.finite_sums.proofs.MapSums.{among-keys_where}
use Rattle.book_rows.specs.Live.{target_of, mapped}
use Rattle.book_rows.specs.Parts.{is_text}
use Rattle.book_edits.specs.Checks.{same_id}
use Rattle.book_edits.specs.Mappings.{mapped_to}
use Rattle.split_transfer.proofs.Basics.{same_refl, same_is, is_other, bool_cases, true_false, either, or_left, or_right, both_true, and_both, none_some, some_is, names_is, names_it, holds_some, among-append}
use Rattle.book_laws.proofs.Each.{each_changed, get-each, among-filter}

module _ {Row : Type 0} (target : Row → Option Text) (m : Texts Row) where
  -- an id is mapped to another one by its own row
  by_row : (q id : Text) → q ≢ id → mapped target m q ≡ id → some_and (λ row. is_text id (target row)) (get m q) ≡ true
  by_row q id apart h = by (get m q) h
    where
      by_target : (o : Option Text) → unwrap_or o q ≡ id → is_text id o ≡ true
      by_target None k = absurd (apart k)
      by_target (Some t) k = names_it (Some t) id (ap Some k)

      by : (o : Option Row) → unwrap_or (target_of target o) q ≡ id → some_and (λ row. is_text id (target row)) o ≡ true
      by None k = absurd (apart k)
      by (Some row) k = by_target (target row) k

  row_tells : (q id : Text) → some_and (λ row. is_text id (target row)) (get m q) ≡ true → mapped target m q ≡ id
  row_tells q id h =
      let x = holds_some (λ row. is_text id (target row)) (get m q) h in
      ap (λ o. unwrap_or (target_of target o) q) x.1 ∙ ap (λ o. unwrap_or o q) (names_is (target x.0) id x.2)

  -- the ids whose rows get another target where an id does: its own, and those that are mapped to it
  abbrev pub those_of : Text → List Text
  those_of id = mapped_to target m id ++ id ∷ []

  those_are : (id q : Text) → is_among text_cmp (those_of id) q ≡ ((not (same_id q id) && some_and (λ row. is_text id (target row)) (get m q)) || (same_id q id || false))
  those_are id q =
      among-append (mapped_to target m id) (id ∷ []) q
      ∙ ap (λ b. b || (same_id q id || false))
      (among-filter (λ other. not (same_id other id)) (keys_where (λ row. is_text id (target row)) (entries m)) q
      ∙ ap (λ b. not (same_id q id) && b) (among-keys_where text_total text_same (λ row. is_text id (target row)) m q))

  pub itself_in : (id : Text) → is_among text_cmp (those_of id) id ≡ true
  itself_in id = among-append (mapped_to target m id) (id ∷ []) id ∙ or_right (is_among text_cmp (mapped_to target m id) id) (same_id id id || false) (or_left (same_id id id) false (same_refl id))

  pub mapped_in : (id q : Text) → mapped target m q ≡ id → is_among text_cmp (those_of id) q ≡ true
  mapped_in id q h = those_are id q ∙ bool_cases (same_id q id)
      (λ t. or_right (not (same_id q id) && some_and (λ row. is_text id (target row)) (get m q)) (same_id q id || false) (or_left (same_id q id) false t))
      (λ f. or_left (not (same_id q id) && some_and (λ row. is_text id (target row)) (get m q)) (same_id q id || false)
      (and_both (not (same_id q id)) (some_and (λ row. is_text id (target row)) (get m q)) (ap not f) (by_row q id (is_other q id f) h)))

  -- and no others
  pub in_which : (id q : Text) {P : Type 0} → is_among text_cmp (those_of id) q ≡ true → (q ≡ id → P) → (mapped target m q ≡ id → P) → P
  in_which id q h own other = either (not (same_id q id) && some_and (λ row. is_text id (target row)) (get m q)) (same_id q id || false) (sym (those_are id q) ∙ h)
      (λ t. other (row_tells q id (both_true (not (same_id q id)) (some_and (λ row. is_text id (target row)) (get m q)) t).1))
      (λ t. either (same_id q id) false t (λ s. own (same_is q id s)) (λ n. true_false false n refl))

  -- ---- these rows get one target

  module _ (blank : Text → Row) (change : Row → Row) (twice : (x : Row) → change (change x) ≡ change x) (to : Text) (aims : (x : Row) → target (change x) ≡ Some to) (ks : List Text) where
    abbrev pub n : Texts Row
    n = each_changed blank change ks m

    pub aimed : (q : Text) → is_among text_cmp ks q ≡ true → mapped target n q ≡ to
    aimed q h =
        ap (λ o. unwrap_or (target_of target o) q) (get-each blank change twice ks m q ∙ ap (λ b. cond b (Some (change (unwrap_or (get m q) (blank q)))) (get m q)) h)
        ∙ ap (λ o. unwrap_or o q) (aims (unwrap_or (get m q) (blank q)))

    pub as_before : (q : Text) → is_among text_cmp ks q ≡ false → mapped target n q ≡ mapped target m q
    as_before q h = ap (λ o. unwrap_or (target_of target o) q) (get-each blank change twice ks m q ∙ ap (λ b. cond b (Some (change (unwrap_or (get m q) (blank q)))) (get m q)) h)

    -- what columns with an id resolve to
    pub column_aimed : (o : Option Text) (q : Text) → o ≡ Some q → is_among text_cmp ks q ≡ true → option_map (mapped target n) o ≡ Some to
    column_aimed o q e h = ap (option_map (mapped target n)) e ∙ ap Some (aimed q h)

    pub column_as_before : (o : Option Text) → ((q : Text) → o ≡ Some q → is_among text_cmp ks q ≡ false) → option_map (mapped target n) o ≡ option_map (mapped target m) o
    column_as_before None h = refl
    column_as_before (Some q) h = ap Some (as_before q (h q refl))

-- the column of what resolves to an id
pub resolved : {Row : Type 0} (target : Row → Option Text) (m : Texts Row) (o : Option Text) (id : Text) → option_map (mapped target m) o ≡ Some id → (q : Text) × (o ≡ Some q) × (mapped target m q ≡ id)
resolved target m None id h = none_some id h
resolved target m (Some q) id h = (q, refl, some_is (mapped target m q) id h)
