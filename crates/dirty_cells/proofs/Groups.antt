-- A group is the same with the same categories, where neither its row nor the row of a category of it changed.
use Rattle.std.proofs.Common.{◌≡◌, ℕ, Bool, true, false, not, cond, List, [], ◌∷◌, map, Option, Some, None, refl, ap, sym, ◌∙◌, subst, inl, inr, true≢false}
use Rattle.std.specs.Prelude.{◌&&◌, ◌||◌, ◌⊎◌}
use lib.Dec.{T}
use Rattle.std.specs.Option.{option_map}
use Rattle.std.specs.List.{filter, list_any}
use Rattle.std.specs.declared.cmp.Ordering.{Ordering}
use Rattle.std.specs.declared.cmp.Ordering.TheVariants.{Less, Equal, Greater}
use Rattle.std.specs.Ordering.{eq_by_cmp, is_eq, match_ordering, int_cmp, ordering_then}
use Rattle.std.specs.BTreeMap.{insert_entry}
use Rattle.std.specs.FinMap.{find, put, is_sorted, entries, entries_sorted, get, get-entries, IsAntisymmetric}
use Rattle.std.specs.FinMap.Entries.{below_all, by_order, same_entries, is_sorted-put}
use Rattle.std.proofs.lemmas.Map.Lookups.{exact_pairs, exact_signed, exact_bytes}
use lib.IntN.{ℤ}
use Rattle.finite_sums.specs.Maps.{Text, text_cmp, some_and, keys_where}
use Rattle.finite_sums.proofs.MapSums.{so, both_true, and_both}
use Rattle.book_rows.specs.declared.rows.Rows.{Rows}
use Rattle.book_rows.specs.declared.rows.GroupRow.{GroupRow}
use Rattle.book_rows.specs.declared.rows.CategoryRow.{CategoryRow}
use Rattle.book_rows.specs.Parts.{is_text}
use Rattle.envelope_cells.specs.declared.groups.BudgetGroup.{BudgetGroup}
use Rattle.envelope_cells.specs.declared.groups.Place.{Place}
use Rattle.envelope_cells.specs.Places.{place_cmp, places_total, placed, category_places, ids_of_group, with_categories}
use Rattle.envelope_cells.specs.BudgetOf.{groups_of}
use Rattle.envelope_cells.specs.CellOf.{group_named}
use Rattle.envelope_cells.proofs.Among.{same_texts}
use Rattle.dirty_cells.proofs.Listed.{or_none, or_swap, or_assoc, or_first, or_second, any_same, any-map, any-filter, and_false, and_assoc, has, IsFresh, fresh, fresh_same, any_insert, found_any, group_found, group_list, category_list}

-- places that are the same in their order are equal
place_from : ℤ × Text → Place
place_from p = record { sort_order = p.0; id = p.1 }

places_same : IsAntisymmetric place_cmp
unfolding place_from
places_same a b h = ap place_from (exact_pairs int_cmp text_cmp exact_signed exact_bytes (a.sort_order, a.id) (b.sort_order, b.id) h)

-- ---- what was put in its place, again with the place
module _ {V : Type 0} where
  insert_is_put : (k : Place) (v : V) (es : List (Place × V)) → insert_entry place_cmp es k v ≡ put place_cmp k v es
  insert_is_put k v [] = refl
  insert_is_put k v (e ∷ es) = by (place_cmp k e.0) (insert_is_put k v es)
    where
      by : (o : Ordering) → insert_entry place_cmp es k v ≡ put place_cmp k v es → match_ordering o ((k, v) ∷ e ∷ es) ((e.0, v) ∷ es) (e ∷ insert_entry place_cmp es k v) ≡ by_order o ((k, v) ∷ e ∷ es) ((e.0, v) ∷ es) (e ∷ put place_cmp k v es)
      by Less h = refl
      by Equal h = refl
      by Greater h = ap (λ l. e ∷ l) h

  sorted_placed : (es done : List (Place × V)) → T (is_sorted place_cmp done) → T (is_sorted place_cmp (placed es done))
  sorted_placed [] done h = h
  sorted_placed (e ∷ es) done h = sorted_placed es (insert_entry place_cmp done e.0 e.1) (subst (λ l. T (is_sorted place_cmp l)) (sym (insert_is_put e.0 e.1 done)) (is_sorted-put place_cmp places_total e.0 e.1 done h))

  put_any : (r : Place → V → Bool) (k : Place) (v : V) (es : List (Place × V)) → has k.id es ≡ false → list_any (λ e. r e.0 e.1) (insert_entry place_cmp es k v) ≡ (r k v || list_any (λ e. r e.0 e.1) es)
  put_any r k v [] h = refl
  put_any r k v (e ∷ es) h =
      by (place_cmp k e.0) refl (put_any r k v es (or_second (eq_by_cmp text_cmp k.id e.0.id) (has k.id es) h)) (or_first (eq_by_cmp text_cmp k.id e.0.id) (has k.id es) h)
    where
      tied : place_cmp k e.0 ≡ Equal → eq_by_cmp text_cmp k.id e.0.id ≡ true
      tied p = ap (λ q. eq_by_cmp text_cmp k.id q.id) (sym (places_same k e.0 p)) ∙ Rattle.envelope_cells.proofs.Among.itself k.id

      by : (o : Ordering) → place_cmp k e.0 ≡ o → list_any (λ e. r e.0 e.1) (insert_entry place_cmp es k v) ≡ (r k v || list_any (λ e. r e.0 e.1) es) → eq_by_cmp text_cmp k.id e.0.id ≡ false
          → list_any (λ (e : Place × V). r e.0 e.1) (match_ordering o ((k, v) ∷ e ∷ es) ((e.0, v) ∷ es) (e ∷ insert_entry place_cmp es k v)) ≡ (r k v || (r e.0 e.1 || list_any (λ e. r e.0 e.1) es))
      by Less p rest other = refl
      by Equal p rest other = absurd (true≢false (sym (tied p) ∙ other))
      by Greater p rest other = ap (λ t. r e.0 e.1 || t) rest ∙ or_swap (r e.0 e.1) (r k v) (list_any (λ e. r e.0 e.1) es)

  placed_any : (r : Place → V → Bool) (es done : List (Place × V)) → IsFresh es done → list_any (λ e. r e.0 e.1) (placed es done) ≡ (list_any (λ e. r e.0 e.1) es || list_any (λ e. r e.0 e.1) done)
  placed_any r [] done f = refl
  placed_any r (e ∷ es) done f =
      placed_any r es (insert_entry place_cmp done e.0 e.1) (fresh_same es (e ∷ done) (insert_entry place_cmp done e.0 e.1) (λ q. sym (any_insert (λ id v. eq_by_cmp text_cmp q id) e.0 e.1 done f.0)) f.1)
      ∙ ap (λ t. list_any (λ e. r e.0 e.1) es || t) (put_any r e.0 e.1 done f.0)
      ∙ or_swap (list_any (λ e. r e.0 e.1) es) (r e.0 e.1) (list_any (λ e. r e.0 e.1) done)
      ∙ sym (or_assoc (r e.0 e.1) (list_any (λ e. r e.0 e.1) es) (list_any (λ e. r e.0 e.1) done))

-- ---- keys of lists in order, of which the same pass
module _ {K : Type 0} (R : K → K → Ordering) where
  abbrev marked : List K → List (K × ℕ)
  marked ks = map (λ k. (k, 0)) ks

  keys_marked : (ks : List K) → map (λ e. e.0) (marked ks) ≡ ks
  keys_marked [] = refl
  keys_marked (k ∷ ks) = ap (λ l. k ∷ l) (keys_marked ks)

  find_marked : (q : K) (ks : List K) → find R q (marked ks) ≡ cond {A = Option ℕ} (list_any (eq_by_cmp R q) ks) (Some 0) None
  find_marked q [] = refl
  find_marked q (k ∷ ks) = ap (cond {A = Option ℕ} (eq_by_cmp R q k) (Some 0)) (find_marked q ks) ∙ either (eq_by_cmp R q k) (list_any (eq_by_cmp R q) ks)
    where
      either : (a b : Bool) → cond {A = Option ℕ} a (Some 0) (cond b (Some 0) None) ≡ cond (a || b) (Some 0) None
      either true b = refl
      either false b = refl

  module _ {X : Type 0} (p : X → Bool) where
    below_filtered : (k : K) (es : List (K × X)) → below_all R k es ≡ true → below_all R k (marked (keys_where p es)) ≡ true
    below_filtered k [] h = refl
    below_filtered k (e ∷ es) h =
        let parts = both_true _ _ h in
        let rest = below_filtered k es parts.1 in
        elim (p e.1) as (λ b. below_all R k (marked (map (λ e. e.0) (cond b (e ∷ filter (λ e. p e.1) es) (filter (λ e. p e.1) es)))) ≡ true) [ true ↦ and_both _ _ parts.0 rest | false ↦ rest ]

    sorted_filtered : (es : List (K × X)) → is_sorted R es ≡ true → is_sorted R (marked (keys_where p es)) ≡ true
    sorted_filtered [] h = refl
    sorted_filtered (e ∷ es) h =
        let parts = both_true _ _ h in
        let rest = sorted_filtered es parts.1 in
        elim (p e.1) as (λ b. is_sorted R (marked (map (λ e. e.0) (cond b (e ∷ filter (λ e. p e.1) es) (filter (λ e. p e.1) es)))) ≡ true) [ true ↦ and_both _ _ (below_filtered e.0 es parts.0) rest | false ↦ rest ]

    any_key : (q : K) (es : List (K × X)) → list_any (eq_by_cmp R q) (keys_where p es) ≡ list_any (λ e. eq_by_cmp R q e.0 && p e.1) es
    any_key q es = any-map (eq_by_cmp R q) (λ (e : K × X). e.0) (filter (λ e. p e.1) es) ∙ any-filter (λ (e : K × X). eq_by_cmp R q e.0) (λ e. p e.1) es

  keys_same : {X : Type 0} (p : X → Bool) (o : Rattle.std.specs.Cmp.IsTotalOrder R) (exact : IsAntisymmetric R) (es fs : List (K × X)) → T (is_sorted R es) → T (is_sorted R fs)
      → ((q : K) → list_any (λ e. eq_by_cmp R q e.0 && p e.1) es ≡ list_any (λ e. eq_by_cmp R q e.0 && p e.1) fs) → keys_where p es ≡ keys_where p fs
  keys_same p o exact es fs s t h =
      sym (keys_marked (keys_where p es))
      ∙ ap (map (λ e. e.0)) (same_entries R o exact (marked (keys_where p es)) (marked (keys_where p fs))
      (subst T (sym (sorted_filtered p es (so _ s))) tt) (subst T (sym (sorted_filtered p fs (so _ t))) tt)
      (λ q. find_marked q (keys_where p es) ∙ ap (λ b. cond {A = Option ℕ} b (Some 0) None) (any_key p q es ∙ h q ∙ sym (any_key p q fs)) ∙ sym (find_marked q (keys_where p fs))))
      ∙ keys_marked (keys_where p fs)

-- ---- the categories of a group
both_equal : (a b : Ordering) → is_eq (ordering_then a b) ≡ (is_eq a && is_eq b)
both_equal Less b = refl
both_equal Equal b = refl
both_equal Greater b = refl

turned : (a b c d : Bool) → (((a && b) && c) && d) ≡ (b && ((a && c) && d))
turned true true c d = refl
turned true false c d = refl
turned false true c d = refl
turned false false c d = refl

-- at a place there is a category of the group
abbrev stands_at : Text → Place → CategoryRow → Bool
stands_at g q c = (is_eq (int_cmp q.sort_order c.sort_order) && is_text g c.cat_group) && not c.tombstone

place_found : (rows : Rows) (g : Text) (q : Place) → list_any (λ e. eq_by_cmp place_cmp q e.0 && is_text g e.1) (category_list rows) ≡ some_and (stands_at g q) (get rows.categories q.id)
place_found rows g q =
    placed_any (λ k v. eq_by_cmp place_cmp q k && is_text g v) (category_places (entries rows.categories)) [] (fresh (λ (c : CategoryRow). c.sort_order) (λ c. c.cat_group) (λ c. not c.tombstone) (entries rows.categories) (so _ (entries_sorted rows.categories)) [] tt)
    ∙ or_none (list_any (λ e. eq_by_cmp place_cmp q e.0 && is_text g e.1) (category_places (entries rows.categories)))
    ∙ any-map (λ (e : Place × Option Text). eq_by_cmp place_cmp q e.0 && is_text g e.1) (λ (e : Text × CategoryRow). (record { sort_order = e.1.sort_order; id = e.0 }, e.1.cat_group)) (filter (λ e. not e.1.tombstone) (entries rows.categories))
    ∙ any-filter (λ (e : Text × CategoryRow). eq_by_cmp place_cmp q (record { sort_order = e.1.sort_order; id = e.0 }) && is_text g e.1.cat_group) (λ e. not e.1.tombstone) (entries rows.categories)
    ∙ any_same (λ (e : Text × CategoryRow). (eq_by_cmp place_cmp q (record { sort_order = e.1.sort_order; id = e.0 }) && is_text g e.1.cat_group) && not e.1.tombstone) (λ e. eq_by_cmp text_cmp q.id e.0 && stands_at g q e.1) (entries rows.categories)
    (λ e. ap (λ b. (b && is_text g e.1.cat_group) && not e.1.tombstone) (both_equal (int_cmp q.sort_order e.1.sort_order) (text_cmp q.id e.0))
    ∙ turned (is_eq (int_cmp q.sort_order e.1.sort_order)) (eq_by_cmp text_cmp q.id e.0) (is_text g e.1.cat_group) (not e.1.tombstone))
    ∙ found_any (stands_at g q) q.id (entries rows.categories) (so _ (entries_sorted rows.categories))
    ∙ ap (some_and (stands_at g q)) (sym (get-entries rows.categories q.id))

ids_are : (g : Text) (cs : List (Place × Option Text)) → ids_of_group g cs ≡ map (λ p. p.id) (keys_where (is_text g) cs)
ids_are g cs = go (filter (λ e. is_text g e.1) cs)
  where
    go : (es : List (Place × Option Text)) → map (λ e. e.0.id) es ≡ map (λ p. p.id) (map (λ e. e.0) es)
    go [] = refl
    go (e ∷ es) = ap (λ l. e.0.id ∷ l) (go es)

-- a category's row is the same, or it is of the group neither before nor after
pub record SameMembers (r s : Rows) (g : Text) : Type 0 where
  pub each : (q : Text) → (get r.categories q ≡ get s.categories q) ⊎ ((some_and (λ c. is_text g c.cat_group) (get r.categories q) ≡ false) × (some_and (λ c. is_text g c.cat_group) (get s.categories q) ≡ false))

no_member : (g : Text) (q : Place) (o : Option CategoryRow) → some_and (λ c. is_text g c.cat_group) o ≡ false → some_and (stands_at g q) o ≡ false
no_member g q None h = refl
no_member g q (Some c) h = ap (λ b. (is_eq (int_cmp q.sort_order c.sort_order) && b) && not c.tombstone) h ∙ ap (λ b. b && not c.tombstone) (and_false (is_eq (int_cmp q.sort_order c.sort_order)))

module _ (r s : Rows) (g : Text) (same : SameMembers r s g) where
  same_place : (q : Place) → some_and (stands_at g q) (get r.categories q.id) ≡ some_and (stands_at g q) (get s.categories q.id)
  same_place q = by (same.each q.id)
    where
      by : (get r.categories q.id ≡ get s.categories q.id) ⊎ ((some_and (λ c. is_text g c.cat_group) (get r.categories q.id) ≡ false) × (some_and (λ c. is_text g c.cat_group) (get s.categories q.id) ≡ false))
          → some_and (stands_at g q) (get r.categories q.id) ≡ some_and (stands_at g q) (get s.categories q.id)
      by (inl h) = ap (some_and (stands_at g q)) h
      by (inr h) = no_member g q (get r.categories q.id) h.0 ∙ sym (no_member g q (get s.categories q.id) h.1)

  pub same_ids : ids_of_group g (category_list r) ≡ ids_of_group g (category_list s)
  same_ids =
      ids_are g (category_list r)
      ∙ ap (map (λ (p : Place). p.id)) (keys_same place_cmp (is_text g) places_total places_same (category_list r) (category_list s) (sorted_placed (category_places (entries r.categories)) [] tt) (sorted_placed (category_places (entries s.categories)) [] tt)
      (λ q. place_found r g q ∙ same_place q ∙ sym (place_found s g q)))
      ∙ sym (ids_are g (category_list s))

-- ---- the group itself
abbrev differs : Bool → Bool → Bool
differs true b = not b
differs false b = b

-- the side of the first that has the id
abbrev first_side : Text → List (Place × Bool) → Option Bool
first_side g [] = None
first_side g (e ∷ gs) = cond (eq_by_cmp text_cmp g e.0.id) (Some e.1) (first_side g gs)

first_none : (g : Text) (gs : List (Place × Bool)) → list_any (λ e. eq_by_cmp text_cmp g e.0.id && true) gs ≡ false → first_side g gs ≡ None
first_none g [] h = refl
first_none g (e ∷ gs) h = by (eq_by_cmp text_cmp g e.0.id) h (first_none g gs)
  where
    by : (b : Bool) → ((b && true) || list_any (λ e. eq_by_cmp text_cmp g e.0.id && true) gs) ≡ false → (list_any (λ e. eq_by_cmp text_cmp g e.0.id && true) gs ≡ false → first_side g gs ≡ None) → cond b (Some e.1) (first_side g gs) ≡ None
    by true h rest = absurd (true≢false h)
    by false h rest = rest h

first_some : (g : Text) (side : Bool) (gs : List (Place × Bool)) → list_any (λ e. eq_by_cmp text_cmp g e.0.id && differs side e.1) gs ≡ false → list_any (λ e. eq_by_cmp text_cmp g e.0.id && true) gs ≡ true → first_side g gs ≡ Some side
first_some g side [] h k = absurd (true≢false (sym k))
first_some g side (e ∷ gs) h k = by (eq_by_cmp text_cmp g e.0.id) h k (first_some g side gs)
  where
    agree : (a b : Bool) → differs a b ≡ false → b ≡ a
    agree true true h = refl
    agree true false h = absurd (true≢false h)
    agree false true h = absurd (true≢false h)
    agree false false h = refl

    by : (b : Bool) → ((b && differs side e.1) || list_any (λ e. eq_by_cmp text_cmp g e.0.id && differs side e.1) gs) ≡ false → ((b && true) || list_any (λ e. eq_by_cmp text_cmp g e.0.id && true) gs) ≡ true
        → (list_any (λ e. eq_by_cmp text_cmp g e.0.id && differs side e.1) gs ≡ false → list_any (λ e. eq_by_cmp text_cmp g e.0.id && true) gs ≡ true → first_side g gs ≡ Some side) → cond b (Some e.1) (first_side g gs) ≡ Some side
    by true h k rest = ap Some (agree side e.1 (or_first (differs side e.1) (list_any (λ e. eq_by_cmp text_cmp g e.0.id && differs side e.1) gs) h))
    by false h k rest = rest h k

-- a group's row gives a side, where it was not deleted and is on one that is asked for
abbrev pub side_of : (Bool → Bool) → Option GroupRow → Option Bool
side_of u None = None
side_of u (Some row) = cond (u row.is_income && not row.tombstone) (Some row.is_income) None

module _ (u : Bool → Bool) (g : Text) (rows : Rows) where
  found_side : (p : Bool → Bool) → list_any (λ e. eq_by_cmp text_cmp g e.0.id && p e.1) (filter (λ e. u e.1) (group_list rows)) ≡ some_and (λ row. (p row.is_income && u row.is_income) && not row.tombstone) (get rows.groups g)
  found_side p =
      any-filter (λ (e : Place × Bool). eq_by_cmp text_cmp g e.0.id && p e.1) (λ e. u e.1) (group_list rows)
      ∙ any_same (λ (e : Place × Bool). (eq_by_cmp text_cmp g e.0.id && p e.1) && u e.1) (λ e. eq_by_cmp text_cmp g e.0.id && (p e.1 && u e.1)) (group_list rows) (λ e. and_assoc (eq_by_cmp text_cmp g e.0.id) (p e.1) (u e.1))
      ∙ group_found rows (λ b. p b && u b) g

  first_is : first_side g (filter (λ e. u e.1) (group_list rows)) ≡ side_of u (get rows.groups g)
  first_is = by (get rows.groups g) refl
    where
      off : (a b : Bool) → ((differs a a && b)) ≡ false
      off true b = refl
      off false b = refl

      row_by : (row : GroupRow) → get rows.groups g ≡ Some row → (b : Bool) → (u row.is_income && not row.tombstone) ≡ b → first_side g (filter (λ e. u e.1) (group_list rows)) ≡ cond b (Some row.is_income) None
      row_by row e true h = first_some g row.is_income (filter (λ e. u e.1) (group_list rows))
          (found_side (differs row.is_income) ∙ ap (some_and (λ (x : GroupRow). (differs row.is_income x.is_income && u x.is_income) && not x.tombstone)) e ∙ ap (λ b. b && not row.tombstone) (off row.is_income (u row.is_income)))
          (found_side (λ b. true) ∙ ap (some_and (λ (x : GroupRow). u x.is_income && not x.tombstone)) e ∙ h)
      row_by row e false h = first_none g (filter (λ e. u e.1) (group_list rows)) (found_side (λ b. true) ∙ ap (some_and (λ (x : GroupRow). u x.is_income && not x.tombstone)) e ∙ h)

      by : (o : Option GroupRow) → get rows.groups g ≡ o → first_side g (filter (λ e. u e.1) (group_list rows)) ≡ side_of u o
      by None e = first_none g (filter (λ e. u e.1) (group_list rows)) (found_side (λ b. true) ∙ ap (some_and (λ (x : GroupRow). u x.is_income && not x.tombstone)) e)
      by (Some row) e = row_by row e (u row.is_income && not row.tombstone) refl

  -- the group of the id, by its side and its categories
  abbrev pub group_by : Option Bool → List Text → Option BudgetGroup
  group_by o ids = option_map (λ side. record { id = g; is_income = side; categories = ids }) o

  named_by : (cs : List (Place × Option Text)) (gs : List (Place × Bool)) → group_named (filter (λ k. u k.is_income) (with_categories cs gs)) g ≡ group_by (first_side g (filter (λ e. u e.1) gs)) (ids_of_group g cs)
  named_by cs [] = refl
  named_by cs (e ∷ gs) = by (u e.1) (named_by cs gs)
    where
      tie : (b : Bool) → eq_by_cmp text_cmp g e.0.id ≡ b → group_named (filter (λ k. u k.is_income) (with_categories cs gs)) g ≡ group_by (first_side g (filter (λ e. u e.1) gs)) (ids_of_group g cs)
          → cond b (Some (record { id = e.0.id; is_income = e.1; categories = ids_of_group e.0.id cs })) (group_named (filter (λ k. u k.is_income) (with_categories cs gs)) g) ≡ group_by (cond b (Some e.1) (first_side g (filter (λ e. u e.1) gs))) (ids_of_group g cs)
      tie true h rest = ap (λ q. Some (record { id = q; is_income = e.1; categories = ids_of_group q cs })) (sym (same_texts g e.0.id h))
      tie false h rest = rest

      by : (b : Bool) → group_named (filter (λ k. u k.is_income) (with_categories cs gs)) g ≡ group_by (first_side g (filter (λ e. u e.1) gs)) (ids_of_group g cs)
          → group_named (cond b (record { id = e.0.id; is_income = e.1; categories = ids_of_group e.0.id cs } ∷ filter (λ k. u k.is_income) (with_categories cs gs)) (filter (λ k. u k.is_income) (with_categories cs gs))) g ≡ group_by (first_side g (cond b (e ∷ filter (λ e. u e.1) gs) (filter (λ e. u e.1) gs))) (ids_of_group g cs)
      by true rest = tie (eq_by_cmp text_cmp g e.0.id) refl rest
      by false rest = rest

  pub named_is : group_named (filter (λ k. u k.is_income) (groups_of rows)) g ≡ group_by (side_of u (get rows.groups g)) (ids_of_group g (category_list rows))
  named_is = named_by (category_list rows) (group_list rows) ∙ ap (λ o. group_by o (ids_of_group g (category_list rows))) first_is

-- a group whose row, and whose categories' rows, are the same
pub group_stays : (u : Bool → Bool) (r s : Rows) (g : Text) → get r.groups g ≡ get s.groups g → SameMembers r s g → group_named (filter (λ k. u k.is_income) (groups_of r)) g ≡ group_named (filter (λ k. u k.is_income) (groups_of s)) g
group_stays u r s g row same =
    named_is u g r ∙ ap (λ o. group_by u g r (side_of u o) (ids_of_group g (category_list r))) row ∙ ap (group_by u g r (side_of u (get s.groups g))) (same_ids r s g same) ∙ sym (named_is u g s)
