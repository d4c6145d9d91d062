-- No category is listed twice.
use Rattle.std.proofs.Common.{◌≡◌, ℕ, ◌+◌, ◌≤◌, Bool, true, false, not, cond, List, [], ◌∷◌, ◌++◌, map, Option, Some, None, refl, ap, sym, ◌∙◌, arith}
use Rattle.std.specs.Prelude.{◌&&◌}
use Rattle.std.specs.List.{filter}
use Rattle.std.specs.declared.cmp.Ordering.{Ordering}
use Rattle.std.specs.declared.cmp.Ordering.TheVariants.{Less, Equal, Greater}
use Rattle.std.specs.Ordering.{eq_by_cmp, match_ordering, int_cmp, ordering_then}
use Rattle.std.specs.BTreeMap.{insert_entry}
use Rattle.std.specs.FinMap.{find, is_sorted, entries, entries_sorted}
use Rattle.finite_sums.specs.Sums.{hits}
use Rattle.finite_sums.specs.Maps.{Text, text_cmp, some_and}
use Rattle.finite_sums.proofs.MapSums.{so, both_true, sorted_tail}
use Rattle.finite_sums.proofs.Texts.{text_total, text_same}
use Rattle.book_rows.specs.declared.rows.Rows.{Rows}
use Rattle.book_rows.specs.declared.rows.GroupRow.{GroupRow}
use Rattle.book_rows.specs.declared.rows.CategoryRow.{CategoryRow}
use Rattle.book_rows.specs.Parts.{is_text}
use Rattle.envelope_cells.specs.Budget.{categories_of, categories}
use Rattle.envelope_cells.specs.declared.groups.Place.{Place}
use Rattle.envelope_cells.specs.Places.{place_cmp, placed, group_places, category_places, ids_of_group, with_categories}
use Rattle.envelope_cells.specs.BudgetOf.{budget_of}
use Rattle.envelope_cells.proofs.Rows.{absent}
use Rattle.envelope_cells.proofs.Among.{same_texts}

-- what a test counts
abbrev pub one_if : Bool → ℕ
one_if b = cond b 1 0

pub hits-append : {X : Type 0} (p : X → Bool) (xs ys : List X) → hits p (xs ++ ys) ≡ hits p xs + hits p ys
hits-append p [] ys = omega arith
hits-append p (x ∷ xs) ys = omega (arith, hits-append p xs ys)

pub then_equal : (o q : Ordering) → ordering_then o q ≡ Equal → q ≡ Equal
then_equal Less q h = cc
then_equal Equal q h = h
then_equal Greater q h = cc

-- one put in its place adds one at most
module _ {V : Type 0} (r : Text → V → Bool) where
  hits-insert : (k : Place) (v : V) (es : List (Place × V)) → hits (λ e. r e.0.id e.1) (insert_entry place_cmp es k v) ≤ one_if (r k.id v) + hits (λ e. r e.0.id e.1) es
  hits-insert k v [] = omega arith
  hits-insert k v (e ∷ es) = by (place_cmp k e.0) refl (hits-insert k v es)
    where
      by : (o : Ordering) → place_cmp k e.0 ≡ o → hits (λ e. r e.0.id e.1) (insert_entry place_cmp es k v) ≤ one_if (r k.id v) + hits (λ e. r e.0.id e.1) es
          → hits (λ e. r e.0.id e.1) (match_ordering o ((k, v) ∷ e ∷ es) ((e.0, v) ∷ es) (e ∷ insert_entry place_cmp es k v)) ≤ one_if (r k.id v) + (one_if (r e.0.id e.1) + hits (λ e. r e.0.id e.1) es)
      by Less p h = omega arith
      by Equal p h =
          let same : k.id ≡ e.0.id = text_same k.id e.0.id (then_equal (int_cmp k.sort_order e.0.sort_order) (text_cmp k.id e.0.id) p) in
          let kept : one_if (r e.0.id v) ≡ one_if (r k.id v) = ap (λ q. one_if (r q v)) (sym same) in
          omega (arith, kept)
      by Greater p h = omega (arith, h)

  hits-placed : (es done : List (Place × V)) → hits (λ e. r e.0.id e.1) (placed es done) ≤ hits (λ e. r e.0.id e.1) es + hits (λ e. r e.0.id e.1) done
  hits-placed [] done = omega arith
  hits-placed (e ∷ es) done = omega (arith, hits-placed es (insert_entry place_cmp done e.0 e.1), hits-insert e.0 e.1 done)

-- in a map in order a key stands at most once
module _ {X : Type 0} (q : Text) (t : X → Bool) where
  pub once : (es : List (Text × X)) → is_sorted text_cmp es ≡ true → hits (λ e. eq_by_cmp text_cmp q e.0 && t e.1) es ≤ one_if (some_and t (find text_cmp q es))
  once [] s = omega arith
  once (e ∷ es) s = by (eq_by_cmp text_cmp q e.0) refl (once es (sorted_tail text_total text_same e es s))
    where
      by : (b : Bool) → eq_by_cmp text_cmp q e.0 ≡ b → hits (λ e. eq_by_cmp text_cmp q e.0 && t e.1) es ≤ one_if (some_and t (find text_cmp q es))
          → one_if (b && t e.1) + hits (λ e. eq_by_cmp text_cmp q e.0 && t e.1) es ≤ one_if (some_and t (cond b (Some e.1) (find text_cmp q es)))
      by true p h =
          let gone : find text_cmp q es ≡ None = ap (λ k. find text_cmp k es) (same_texts q e.0 p) ∙ absent e.0 es (both_true _ _ s).0 in
          let none : one_if (some_and t (find text_cmp q es)) ≡ 0 = ap (λ o. one_if (some_and t o)) gone in
          omega (arith, h, none)
      by false p h = omega (arith, h)

  -- whatever else is asked
  pub fewer : (u : X → Bool) (es : List (Text × X)) → hits (λ e. eq_by_cmp text_cmp q e.0 && t e.1) (filter (λ e. u e.1) es) ≤ hits (λ e. eq_by_cmp text_cmp q e.0 && t e.1) es
  fewer u [] = omega arith
  fewer u (e ∷ es) = by (u e.1) (fewer u es)
    where
      by : (b : Bool) → hits (λ e. eq_by_cmp text_cmp q e.0 && t e.1) (filter (λ e. u e.1) es) ≤ hits (λ e. eq_by_cmp text_cmp q e.0 && t e.1) es
          → hits (λ e. eq_by_cmp text_cmp q e.0 && t e.1) (cond b (e ∷ filter (λ e. u e.1) es) (filter (λ e. u e.1) es)) ≤ one_if (eq_by_cmp text_cmp q e.0 && t e.1) + hits (λ e. eq_by_cmp text_cmp q e.0 && t e.1) es
      by true h = omega (arith, h)
      by false h = omega (arith, h)

pub hits-map : {A X : Type 0} (p : X → Bool) (f : A → X) (xs : List A) → hits p (map f xs) ≡ hits (λ x. p (f x)) xs
hits-map p f [] = refl
hits-map p f (x ∷ xs) = ap (λ n. one_if (p (f x)) + n) (hits-map p f xs)

and_both : (a : Bool) → one_if (a && true) ≡ one_if a
and_both true = refl
and_both false = refl

and_none : (a : Bool) → one_if (a && false) ≡ 0
and_none true = refl
and_none false = refl

hits-filter : {A : Type 0} (p u : A → Bool) (xs : List A) → hits p (filter u xs) ≡ hits (λ x. p x && u x) xs
hits-filter p u [] = refl
hits-filter p u (x ∷ xs) = by (u x) (hits-filter p u xs)
  where
    by : (b : Bool) → hits p (filter u xs) ≡ hits (λ x. p x && u x) xs → hits p (cond b (x ∷ filter u xs) (filter u xs)) ≡ one_if (p x && b) + hits (λ x. p x && u x) xs
    by true h = omega (arith, h, and_both (p x))
    by false h = omega (arith, h, and_none (p x))

pub hits_none : {A : Type 0} (xs : List A) → hits (λ (x : A). false) xs ≡ 0
hits_none [] = refl
hits_none (x ∷ xs) = omega (arith, hits_none xs)

hits_same : {A : Type 0} (p q : A → Bool) (xs : List A) → ((x : A) → one_if (p x) ≡ one_if (q x)) → hits p xs ≡ hits q xs
hits_same p q [] h = refl
hits_same p q (x ∷ xs) h = omega (arith, h x, hits_same p q xs h)

at_most_one : (b : Bool) → one_if b ≤ 1
at_most_one true = omega arith
at_most_one false = omega arith

module _ (rows : Rows) where
  abbrev group_list : List (Place × Bool)
  group_list = placed (group_places (entries rows.groups)) []

  abbrev category_list : List (Place × Option Text)
  category_list = placed (category_places (entries rows.categories)) []

  -- no group is listed twice
  pub groups_once : (q : Text) → hits (λ e. eq_by_cmp text_cmp q e.0.id) group_list ≤ 1
  groups_once q =
      let live = filter (λ (e : Text × GroupRow). not e.1.tombstone) (entries rows.groups) in
      let one : hits (λ e. eq_by_cmp text_cmp q e.0.id) group_list ≤ hits (λ e. eq_by_cmp text_cmp q e.0.id) (group_places (entries rows.groups)) + 0 = hits-placed (λ id v. eq_by_cmp text_cmp q id) (group_places (entries rows.groups)) [] in
      let two : hits (λ e. eq_by_cmp text_cmp q e.0.id) (group_places (entries rows.groups)) ≡ hits (λ e. eq_by_cmp text_cmp q e.0) live = hits-map (λ e. eq_by_cmp text_cmp q e.0.id) (λ e. (record { sort_order = e.1.sort_order; id = e.0 }, e.1.is_income)) live in
      let three : hits (λ e. eq_by_cmp text_cmp q e.0 && true) live ≡ hits (λ e. eq_by_cmp text_cmp q e.0) live = hits_same (λ e. eq_by_cmp text_cmp q e.0 && true) (λ e. eq_by_cmp text_cmp q e.0) live (λ e. and_both (eq_by_cmp text_cmp q e.0)) in
      let four : hits (λ e. eq_by_cmp text_cmp q e.0 && true) live ≤ hits (λ e. eq_by_cmp text_cmp q e.0 && true) (entries rows.groups) = fewer q (λ (g : GroupRow). true) (λ g. not g.tombstone) (entries rows.groups) in
      let five : hits (λ e. eq_by_cmp text_cmp q e.0 && true) (entries rows.groups) ≤ one_if (some_and (λ (g : GroupRow). true) (find text_cmp q (entries rows.groups))) = once q (λ (g : GroupRow). true) (entries rows.groups) (so _ (entries_sorted rows.groups)) in
      let six : one_if (some_and (λ (g : GroupRow). true) (find text_cmp q (entries rows.groups))) ≤ 1 = at_most_one _ in
      omega (arith, one, two, three, four, five, six)

  -- the group of a category
  abbrev group_text : Option CategoryRow → Option Text
  group_text None = None
  group_text (Some c) = c.cat_group

  in_group : (g : Text) (o : Option CategoryRow) → one_if (some_and (λ c. is_text g c.cat_group) o) ≡ one_if (is_text g (group_text o))
  in_group g None = refl
  in_group g (Some c) = refl

  -- a category is listed in no group but the one that it names, and there at most once
  category_once : (q g : Text) → hits (eq_by_cmp text_cmp q) (ids_of_group g category_list) ≤ one_if (is_text g (group_text (find text_cmp q (entries rows.categories))))
  category_once q g =
      let live = filter (λ (e : Text × CategoryRow). not e.1.tombstone) (entries rows.categories) in
      let test = λ (e : Place × Option Text). eq_by_cmp text_cmp q e.0.id && is_text g e.1 in
      let one : hits (eq_by_cmp text_cmp q) (ids_of_group g category_list) ≡ hits (λ e. eq_by_cmp text_cmp q e.0.id) (filter (λ e. is_text g e.1) category_list) = hits-map (eq_by_cmp text_cmp q) (λ (e : Place × Option Text). e.0.id) (filter (λ e. is_text g e.1) category_list) in
      let two : hits (λ e. eq_by_cmp text_cmp q e.0.id) (filter (λ e. is_text g e.1) category_list) ≡ hits test category_list = hits-filter (λ (e : Place × Option Text). eq_by_cmp text_cmp q e.0.id) (λ e. is_text g e.1) category_list in
      let three : hits test category_list ≤ hits test (category_places (entries rows.categories)) + 0 = hits-placed (λ id v. eq_by_cmp text_cmp q id && is_text g v) (category_places (entries rows.categories)) [] in
      let four : hits test (category_places (entries rows.categories)) ≡ hits (λ e. eq_by_cmp text_cmp q e.0 && is_text g e.1.cat_group) live = hits-map test (λ e. (record { sort_order = e.1.sort_order; id = e.0 }, e.1.cat_group)) live in
      let five : hits (λ e. eq_by_cmp text_cmp q e.0 && is_text g e.1.cat_group) live ≤ hits (λ e. eq_by_cmp text_cmp q e.0 && is_text g e.1.cat_group) (entries rows.categories) = fewer q (λ c. is_text g c.cat_group) (λ c. not c.tombstone) (entries rows.categories) in
      let six : hits (λ e. eq_by_cmp text_cmp q e.0 && is_text g e.1.cat_group) (entries rows.categories) ≤ one_if (some_and (λ c. is_text g c.cat_group) (find text_cmp q (entries rows.categories))) = once q (λ c. is_text g c.cat_group) (entries rows.categories) (so _ (entries_sorted rows.categories)) in
      omega (arith, one, two, three, four, five, six, in_group g (find text_cmp q (entries rows.categories)))

  in_groups : (q : Text) (G : Option Text) → ((g : Text) → hits (eq_by_cmp text_cmp q) (ids_of_group g category_list) ≤ one_if (is_text g G)) → (gs : List (Place × Bool)) → hits (eq_by_cmp text_cmp q) (categories_of (with_categories category_list gs)) ≤ hits (λ e. is_text e.0.id G) gs
  in_groups q G h [] = omega arith
  in_groups q G h (e ∷ gs) = omega (arith, hits-append (eq_by_cmp text_cmp q) (ids_of_group e.0.id category_list) (categories_of (with_categories category_list gs)), h e.0.id, in_groups q G h gs)

  of_group_once : (G : Option Text) → hits (λ e. is_text e.0.id G) group_list ≤ 1
  of_group_once None = omega (arith, hits_none group_list)
  of_group_once (Some g) = groups_once g

  -- no category is listed twice
  pub categories_once : (q : Text) → hits (eq_by_cmp text_cmp q) (categories (budget_of rows)) ≤ 1
  categories_once q =
      let G = group_text (find text_cmp q (entries rows.categories)) in
      let one : hits (eq_by_cmp text_cmp q) (categories (budget_of rows)) ≤ hits (λ e. is_text e.0.id G) group_list = in_groups q G (category_once q) group_list in
      omega (arith, one, of_group_once G)
