-- A single change that touches one transaction alone.
use Rattle.std.proofs.Common.{◌≡◌, ◌<◌, ◌≤◌, ◌++◌, false, List, [], ◌∷◌, length, map, get_or, Option, Some, None, IfSome, refl, ap, sym, subst, ◌∙◌, arith}
use Rattle.std.specs.Prelude.{◌||◌, flat_map}
use Rattle.field_values.specs.declared.value.Value.{Value}
use Rattle.finite_sums.specs.Maps.{Text, text_cmp, is_among, AreDistinct}
use Rattle.book_rows.specs.declared.rows.Rows.{Rows}
use Rattle.book_rows.specs.declared.column.Dataset.TheVariants.{Transactions}
use Rattle.dirty_cells.specs.Bound.{touched_txs}
use Rattle.dirty_cells.specs.Changes.{Change, AreDifferent, Within, Spares, with_fields}
use Rattle.dirty_cells.specs.Governing.{touched_list}
use Rattle.dirty_cells.specs.Marking.{set_in, categories_in, groups_in, month_in, is_order, categories_by, groups_by, month_by, earliest, earlier, is_rearranged}
use Rattle.dirty_cells.proofs.Governed.{spared}
use Rattle.dirty_cells.proofs.Listing.{listed_within}
use Rattle.dirty_cells.proofs.Touched.{listed_touched}

-- a list of one element
one_alone : {X : Type 0} (xs : List X) (x : X) → 1 ≤ length xs → length xs < 2 → xs ≡ get_or xs 0 x ∷ []
one_alone [] x some few = absurd (omega (arith, some))
one_alone (y ∷ []) x some few = refl
one_alone (y ∷ z ∷ zs) x some few = absurd (omega (arith, few))

module _ (r : Rows) (cs : List Change) where
  -- what is found of a single change is what it touches
  pub found_alone : (c : Change) (found : Option Text) (id : Text) → IfSome found (λ own. (v : Value) → touched_list r (((get_or cs 0 c).0, v) ∷ []) ≡ own ∷ []) → found ≡ Some id
      → 1 ≤ length cs → length cs < 2 → touched_list r cs ≡ id ∷ []
  found_alone c (Some own) id touches is some few =
      let same : own ≡ id = cc in
      ap (touched_list r) (one_alone cs c some few) ∙ touches (get_or cs 0 c).1 ∙ ap (λ (i : Text). i ∷ []) same
  found_alone c None id touches is some few = absurd (cc)

  module _ (id : Text) (ids : List Text) (alone : touched_list r cs ≡ id ∷ []) (is : ids ≡ id ∷ []) where
    same_among : (q : Text) → is_among text_cmp ids q ≡ is_among text_cmp (touched_list r cs) q
    same_among q = ap (λ l. is_among text_cmp l q) (is ∙ sym alone)

    pub alone_spares : Spares r (with_fields r cs) ids
    alone_spares = spared r cs ids (subst (AreDistinct text_cmp) (sym is) (refl, tt)) (listed_touched r ids cs same_among)

    pub alone_within : AreDifferent cs → Within ids (touched_txs r (with_fields r cs) cs)
    alone_within apart = record { each = λ q h. listed_within r cs apart q (sym (same_among q) ∙ h) }

  -- a single change that sets a transaction's row marks nothing by its row
  module _ (c : Change) (found : Option Text) (id : Text) (sets : IfSome found (λ own. set_in (get_or cs 0 c) ≡ Some Transactions)) (is : found ≡ Some id) (some : 1 ≤ length cs) (few : length cs < 2) where
    set_alone : (o : Option Text) → IfSome o (λ own. set_in (get_or cs 0 c) ≡ Some Transactions) → o ≡ Some id → set_in (get_or cs 0 c) ≡ Some Transactions
    set_alone (Some own) h e = h
    set_alone None h e = absurd (cc)

    abbrev x : Change
    x = get_or cs 0 c

    set_there : set_in x ≡ Some Transactions
    set_there = set_alone found sets is

    pub no_categories : (q : Text) → is_among text_cmp (flat_map (categories_by r) cs) q ≡ false
    no_categories q = ap (λ l. is_among text_cmp (flat_map (categories_by r) l) q) (one_alone cs c some few) ∙ ap (λ o. is_among text_cmp (categories_in r o x.0.row ++ []) q) set_there

    pub no_groups : (q : Text) → is_among text_cmp (flat_map (groups_by r) cs) q ≡ false
    no_groups q = ap (λ l. is_among text_cmp (flat_map (groups_by r) l) q) (one_alone cs c some few) ∙ ap (λ o. is_among text_cmp (groups_in r o x.0.row ++ []) q) set_there

    pub no_month : earliest 2760 (map month_by cs) ≡ 2760
    no_month = ap (λ l. earliest 2760 (map month_by l)) (one_alone cs c some few) ∙ ap (λ o. earlier 2760 (month_in o x.0.row)) set_there

    pub no_order : is_rearranged cs ≡ false
    no_order = ap is_rearranged (one_alone cs c some few) ∙ ap (λ o. is_order o || false) set_there
