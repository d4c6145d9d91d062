-- The groups and categories that a budget lists are the live ones.
use Rattle.std.proofs.Common.{◌≡◌, Bool, true, false, not, cond, List, [], ◌∷◌, map, Option, Some, None, refl, ap, sym, ◌∙◌}
use Rattle.std.specs.Prelude.{◌&&◌, ◌||◌}
use Rattle.std.specs.List.{filter, list_any, AllByRecursion}
use lib.IntN.{ℤ}
use Rattle.std.specs.declared.cmp.Ordering.{Ordering}
use Rattle.std.specs.declared.cmp.Ordering.TheVariants.{Less, Equal, Greater}
use Rattle.std.specs.Ordering.{eq_by_cmp, is_lt, match_ordering, int_cmp}
use Rattle.std.specs.BTreeMap.{insert_entry}
use Rattle.std.specs.Cmp.{eq_by_cmp_equiv}
use Rattle.std.specs.FinMap.{find, is_sorted, entries, entries_sorted, get, get-entries}
use Rattle.std.specs.FinMap.Entries.{below_all}
use Rattle.finite_sums.specs.Maps.{Text, Texts, text_cmp, is_among, some_and}
use Rattle.finite_sums.proofs.MapSums.{so, both_true, sorted_tail}
use Rattle.finite_sums.proofs.Texts.{text_total, text_same}
use Rattle.book_rows.specs.declared.rows.Rows.{Rows}
use Rattle.book_rows.specs.declared.rows.GroupRow.{GroupRow}
use Rattle.book_rows.specs.declared.rows.CategoryRow.{CategoryRow}
use Rattle.book_rows.specs.Parts.{is_text}
use Rattle.book_rows.specs.Live.{is_live_group, is_live_category_row, has_income_group}
use Rattle.envelope_cells.specs.Budget.{categories_of}
use Rattle.envelope_cells.specs.declared.groups.BudgetGroup.{BudgetGroup}
use Rattle.envelope_cells.specs.declared.groups.Place.{Place}
use Rattle.envelope_cells.specs.Places.{place_cmp, placed, group_places, category_places, ids_of_group, with_categories}
use Rattle.envelope_cells.specs.BudgetOf.{groups_of}
use Rattle.envelope_cells.proofs.Rows.{absent, less_no_tie}
use Rattle.envelope_cells.proofs.Among.{same_texts, among-append, itself}
use Rattle.envelope_cells.proofs.Distinct.{then_equal}
use Rattle.envelope_cells.specs.Laws.{LiveOnesAreListed}

-- ---- tests on lists
pub or_none : (a : Bool) → (a || false) ≡ a
or_none true = refl
or_none false = refl

pub or_swap : (a b c : Bool) → (a || (b || c)) ≡ (b || (a || c))
or_swap true true c = refl
or_swap true false c = refl
or_swap false true c = refl
or_swap false false c = refl

pub or_assoc : (a b c : Bool) → ((a || b) || c) ≡ (a || (b || c))
or_assoc true b c = refl
or_assoc false b c = refl

pub or_first : (a b : Bool) → (a || b) ≡ false → a ≡ false
or_first true b h = h
or_first false b h = refl

pub or_second : (a b : Bool) → (a || b) ≡ false → b ≡ false
or_second true b h = cc
or_second false b h = h

pub any_same : {X : Type 0} (p q : X → Bool) (xs : List X) → ((x : X) → p x ≡ q x) → list_any p xs ≡ list_any q xs
any_same p q [] h = refl
any_same p q (x ∷ xs) h = λ i. h x i || any_same p q xs h i

pub any_none : {X : Type 0} (xs : List X) → list_any (λ (x : X). false) xs ≡ false
any_none [] = refl
any_none (x ∷ xs) = any_none xs

pub any-map : {A X : Type 0} (p : X → Bool) (f : A → X) (xs : List A) → list_any p (map f xs) ≡ list_any (λ x. p (f x)) xs
any-map p f [] = refl
any-map p f (x ∷ xs) = ap (λ t. p (f x) || t) (any-map p f xs)

pub and_true : (a : Bool) → (a && true) ≡ a
and_true true = refl
and_true false = refl

pub and_false : (a : Bool) → (a && false) ≡ false
and_false true = refl
and_false false = refl

pub and_assoc : (a b c : Bool) → ((a && b) && c) ≡ (a && (b && c))
and_assoc true b c = refl
and_assoc false b c = refl

pub and_comm : (a b : Bool) → (a && b) ≡ (b && a)
and_comm true b = sym (and_true b)
and_comm false b = sym (and_false b)

pub any-filter : {A : Type 0} (p u : A → Bool) (xs : List A) → list_any p (filter u xs) ≡ list_any (λ x. p x && u x) xs
any-filter p u [] = refl
any-filter p u (x ∷ xs) = by (u x) (any-filter p u xs)
  where
    by : (b : Bool) → list_any p (filter u xs) ≡ list_any (λ x. p x && u x) xs → list_any p (cond b (x ∷ filter u xs) (filter u xs)) ≡ ((p x && b) || list_any (λ x. p x && u x) xs)
    by true h = ap (λ t. p x || t) h ∙ ap (λ t. t || list_any (λ x. p x && u x) xs) (sym (and_true (p x)))
    by false h = h ∙ ap (λ t. t || list_any (λ x. p x && u x) xs) (sym (and_false (p x)))

pub among_any : (xs : List Text) (q : Text) → is_among text_cmp xs q ≡ list_any (eq_by_cmp text_cmp q) xs
among_any [] q = refl
among_any (x ∷ xs) q = ap (λ t. eq_by_cmp text_cmp q x || t) (among_any xs q)

-- ---- what was put in its place
abbrev pub has : {V : Type 0} → Text → List (Place × V) → Bool
has q es = list_any (λ e. eq_by_cmp text_cmp q e.0.id) es

pub any_insert : {V : Type 0} (r : Text → V → Bool) (k : Place) (v : V) (es : List (Place × V)) → has k.id es ≡ false → list_any (λ e. r e.0.id e.1) (insert_entry place_cmp es k v) ≡ (r k.id v || list_any (λ e. r e.0.id e.1) es)
any_insert r k v [] h = refl
any_insert {V} r k v (e ∷ es) h =
    by (place_cmp k e.0) refl (any_insert r k v es (or_second (eq_by_cmp text_cmp k.id e.0.id) (has k.id es) h)) (or_first (eq_by_cmp text_cmp k.id e.0.id) (has k.id es) h)
  where
    by : (o : Ordering) → place_cmp k e.0 ≡ o → list_any (λ e. r e.0.id e.1) (insert_entry place_cmp es k v) ≡ (r k.id v || list_any (λ e. r e.0.id e.1) es) → eq_by_cmp text_cmp k.id e.0.id ≡ false
        → list_any (λ (e : Place × V). r e.0.id e.1) (match_ordering o ((k, v) ∷ e ∷ es) ((e.0, v) ∷ es) (e ∷ insert_entry place_cmp es k v)) ≡ (r k.id v || (r e.0.id e.1 || list_any (λ e. r e.0.id e.1) es))
    by Less p rest other = refl
    by Equal p rest other =
        let same : k.id ≡ e.0.id = text_same k.id e.0.id (then_equal (int_cmp k.sort_order e.0.sort_order) (text_cmp k.id e.0.id) p) in
        let yes : eq_by_cmp text_cmp k.id e.0.id ≡ true = ap (eq_by_cmp text_cmp k.id) (sym same) ∙ itself k.id in
        let both : true ≡ false = sym yes ∙ other in
        cc
    by Greater p rest other = ap (λ t. r e.0.id e.1 || t) rest ∙ or_swap (r e.0.id e.1) (r k.id v) (list_any (λ e. r e.0.id e.1) es)

-- no id stands among those that were placed before it
abbrev pub IsFresh : {V : Type 0} → List (Place × V) → List (Place × V) → Type 0
IsFresh [] done = Unit {0}
IsFresh (e ∷ es) done = (has e.0.id done ≡ false) × IsFresh es (e ∷ done)

pub fresh_same : {V : Type 0} (es done others : List (Place × V)) → ((q : Text) → has q done ≡ has q others) → IsFresh es done → IsFresh es others
fresh_same [] done others h f = tt
fresh_same (e ∷ es) done others h f = (sym (h e.0.id) ∙ f.0, fresh_same es (e ∷ done) (e ∷ others) (λ q. ap (λ t. eq_by_cmp text_cmp q e.0.id || t) (h q)) f.1)

pub any_placed : {V : Type 0} (r : Text → V → Bool) (es done : List (Place × V)) → IsFresh es done → list_any (λ e. r e.0.id e.1) (placed es done) ≡ (list_any (λ e. r e.0.id e.1) es || list_any (λ e. r e.0.id e.1) done)
any_placed r [] done f = refl
any_placed r (e ∷ es) done f =
    any_placed r es (insert_entry place_cmp done e.0 e.1) (fresh_same es (e ∷ done) (insert_entry place_cmp done e.0 e.1) (λ q. sym (any_insert (λ id v. eq_by_cmp text_cmp q id) e.0 e.1 done f.0)) f.1)
    ∙ ap (λ t. list_any (λ e. r e.0.id e.1) es || t) (any_insert r e.0 e.1 done f.0)
    ∙ or_swap (list_any (λ e. r e.0.id e.1) es) (r e.0.id e.1) (list_any (λ e. r e.0.id e.1) done)
    ∙ sym (or_assoc (r e.0.id e.1) (list_any (λ e. r e.0.id e.1) es) (list_any (λ e. r e.0.id e.1) done))

-- ---- the entries of a map have one id each
module _ {X V : Type 0} (s : X → ℤ) (f : X → V) (live : X → Bool) where
  abbrev pub place_of : Text × X → Place × V
  place_of e = (record { sort_order = s e.1; id = e.0 }, f e.1)

  tails : (e : Text × X) (es : List (Text × X)) (done : List (Place × V)) → AllByRecursion (λ d. below_all text_cmp d.0.id (e ∷ es) ≡ true) done → AllByRecursion (λ d. below_all text_cmp d.0.id es ≡ true) done
  tails e es [] h = tt
  tails e es (d ∷ done) h = ((both_true (is_lt (text_cmp d.0.id e.0)) (below_all text_cmp d.0.id es) h.0).1, tails e es done h.1)

  not_done : (e : Text × X) (es : List (Text × X)) (done : List (Place × V)) → AllByRecursion (λ d. below_all text_cmp d.0.id (e ∷ es) ≡ true) done → has e.0 done ≡ false
  not_done e es [] h = refl
  not_done e es (d ∷ done) h =
      let less : is_lt (text_cmp d.0.id e.0) ≡ true = (both_true (is_lt (text_cmp d.0.id e.0)) (below_all text_cmp d.0.id es) h.0).0 in
      let apart : eq_by_cmp text_cmp e.0 d.0.id ≡ false = (eq_by_cmp_equiv text_total).symm e.0 d.0.id ∙ less_no_tie (text_cmp d.0.id e.0) less in
      ap (λ t. t || has e.0 done) apart ∙ not_done e es done h.1

  pub fresh : (es : List (Text × X)) → is_sorted text_cmp es ≡ true → (done : List (Place × V)) → AllByRecursion (λ d. below_all text_cmp d.0.id es ≡ true) done → IsFresh (map place_of (filter (λ e. live e.1) es)) done
  fresh [] s done h = tt
  fresh (e ∷ es) s done h =
      by (live e.1) (not_done e es done h)
      (fresh es (sorted_tail text_total text_same e es s) (place_of e ∷ done) ((both_true (below_all text_cmp e.0 es) (is_sorted text_cmp es) s).0, tails e es done h))
      (fresh es (sorted_tail text_total text_same e es s) done (tails e es done h))
    where
      by : (b : Bool) → has e.0 done ≡ false → IsFresh (map place_of (filter (λ e. live e.1) es)) (place_of e ∷ done) → IsFresh (map place_of (filter (λ e. live e.1) es)) done → IsFresh (map place_of (cond b (e ∷ filter (λ e. live e.1) es) (filter (λ e. live e.1) es))) done
      by true p q r = (p, q)
      by false p q r = r

-- what is found in a map
module _ {X : Type 0} (p : X → Bool) (q : Text) where
  pub found_any : (es : List (Text × X)) → is_sorted text_cmp es ≡ true → list_any (λ e. eq_by_cmp text_cmp q e.0 && p e.1) es ≡ some_and p (find text_cmp q es)
  found_any [] s = refl
  found_any (e ∷ es) s = by (eq_by_cmp text_cmp q e.0) refl (found_any es (sorted_tail text_total text_same e es s))
    where
      by : (b : Bool) → eq_by_cmp text_cmp q e.0 ≡ b → list_any (λ e. eq_by_cmp text_cmp q e.0 && p e.1) es ≡ some_and p (find text_cmp q es)
          → ((b && p e.1) || list_any (λ e. eq_by_cmp text_cmp q e.0 && p e.1) es) ≡ some_and p (cond b (Some e.1) (find text_cmp q es))
      by true k h =
          let gone : find text_cmp q es ≡ None = ap (λ k. find text_cmp k es) (same_texts q e.0 k) ∙ absent e.0 es (both_true (below_all text_cmp e.0 es) (is_sorted text_cmp es) s).0 in
          ap (λ t. p e.1 || t) (h ∙ ap (some_and p) gone) ∙ or_none (p e.1)
      by false k h = h

  -- of those that pass another test
  pub found_in : (u : X → Bool) (m : Texts X) → list_any (λ e. eq_by_cmp text_cmp q e.0 && p e.1) (filter (λ e. u e.1) (entries m)) ≡ list_any (λ e. eq_by_cmp text_cmp q e.0 && (p e.1 && u e.1)) (entries m)
  found_in u m =
      any-filter (λ e. eq_by_cmp text_cmp q e.0 && p e.1) (λ e. u e.1) (entries m)
      ∙ any_same (λ e. (eq_by_cmp text_cmp q e.0 && p e.1) && u e.1) (λ e. eq_by_cmp text_cmp q e.0 && (p e.1 && u e.1)) (entries m) (λ e. and_assoc (eq_by_cmp text_cmp q e.0) (p e.1) (u e.1))

module _ (rows : Rows) where
  abbrev pub group_list : List (Place × Bool)
  group_list = placed (group_places (entries rows.groups)) []

  abbrev pub category_list : List (Place × Option Text)
  category_list = placed (category_places (entries rows.categories)) []

  -- a group among those that are listed
  pub group_found : (p : Bool → Bool) (q : Text) → list_any (λ e. eq_by_cmp text_cmp q e.0.id && p e.1) group_list ≡ some_and (λ g. p g.is_income && not g.tombstone) (get rows.groups q)
  group_found p q =
      any_placed (λ id v. eq_by_cmp text_cmp q id && p v) (group_places (entries rows.groups)) [] (fresh (λ (g : GroupRow). g.sort_order) (λ g. g.is_income) (λ g. not g.tombstone) (entries rows.groups) (so _ (entries_sorted rows.groups)) [] tt)
      ∙ or_none (list_any (λ e. eq_by_cmp text_cmp q e.0.id && p e.1) (group_places (entries rows.groups)))
      ∙ any-map (λ (e : Place × Bool). eq_by_cmp text_cmp q e.0.id && p e.1) (λ (e : Text × GroupRow). (record { sort_order = e.1.sort_order; id = e.0 }, e.1.is_income)) (filter (λ e. not e.1.tombstone) (entries rows.groups))
      ∙ found_in (λ (g : GroupRow). p g.is_income) q (λ g. not g.tombstone) rows.groups
      ∙ found_any (λ (g : GroupRow). p g.is_income && not g.tombstone) q (entries rows.groups) (so _ (entries_sorted rows.groups))
      ∙ ap (some_and (λ (g : GroupRow). p g.is_income && not g.tombstone)) (sym (get-entries rows.groups q))

  -- a category among those of a group
  pub category_found : (g q : Text) → is_among text_cmp (ids_of_group g category_list) q ≡ some_and (λ c. is_text g c.cat_group && not c.tombstone) (get rows.categories q)
  category_found g q =
      among_any (ids_of_group g category_list) q
      ∙ any-map (eq_by_cmp text_cmp q) (λ (e : Place × Option Text). e.0.id) (filter (λ e. is_text g e.1) category_list)
      ∙ any-filter (λ (e : Place × Option Text). eq_by_cmp text_cmp q e.0.id) (λ e. is_text g e.1) category_list
      ∙ any_placed (λ id v. eq_by_cmp text_cmp q id && is_text g v) (category_places (entries rows.categories)) [] (fresh (λ (c : CategoryRow). c.sort_order) (λ c. c.cat_group) (λ c. not c.tombstone) (entries rows.categories) (so _ (entries_sorted rows.categories)) [] tt)
      ∙ or_none (list_any (λ e. eq_by_cmp text_cmp q e.0.id && is_text g e.1) (category_places (entries rows.categories)))
      ∙ any-map (λ (e : Place × Option Text). eq_by_cmp text_cmp q e.0.id && is_text g e.1) (λ (e : Text × CategoryRow). (record { sort_order = e.1.sort_order; id = e.0 }, e.1.cat_group)) (filter (λ e. not e.1.tombstone) (entries rows.categories))
      ∙ found_in (λ (c : CategoryRow). is_text g c.cat_group) q (λ c. not c.tombstone) rows.categories
      ∙ found_any (λ (c : CategoryRow). is_text g c.cat_group && not c.tombstone) q (entries rows.categories) (so _ (entries_sorted rows.categories))
      ∙ ap (some_and (λ (c : CategoryRow). is_text g c.cat_group && not c.tombstone)) (sym (get-entries rows.categories q))

  -- a category among those of the groups on one side
  side_any : (u : Bool → Bool) (q : Text) (gs : List (Place × Bool)) → is_among text_cmp (categories_of (filter (λ g. u g.is_income) (with_categories category_list gs))) q ≡ list_any (λ e. u e.1 && is_among text_cmp (ids_of_group e.0.id category_list) q) gs
  side_any u q [] = refl
  side_any u q (e ∷ gs) = by (u e.1) (side_any u q gs)
    where
      by : (b : Bool) → is_among text_cmp (categories_of (filter (λ g. u g.is_income) (with_categories category_list gs))) q ≡ list_any (λ e. u e.1 && is_among text_cmp (ids_of_group e.0.id category_list) q) gs
          → is_among text_cmp (categories_of (cond b (record { id = e.0.id; is_income = e.1; categories = ids_of_group e.0.id category_list } ∷ filter (λ g. u g.is_income) (with_categories category_list gs)) (filter (λ g. u g.is_income) (with_categories category_list gs)))) q
          ≡ ((b && is_among text_cmp (ids_of_group e.0.id category_list) q) || list_any (λ e. u e.1 && is_among text_cmp (ids_of_group e.0.id category_list) q) gs)
      by true h = among-append (ids_of_group e.0.id category_list) (categories_of (filter (λ g. u g.is_income) (with_categories category_list gs))) q ∙ ap (λ t. is_among text_cmp (ids_of_group e.0.id category_list) q || t) h
      by false h = h

  -- what a category row makes of it
  abbrev pub side_row : (Bool → Bool) → CategoryRow → Bool
  side_row u c = not c.tombstone && some_and (λ G. some_and (λ g. u g.is_income && not g.tombstone) (get rows.groups G)) c.cat_group

  in_side : (u : Bool → Bool) (t : Bool) (o : Option Text) → list_any (λ e. u e.1 && (is_text e.0.id o && not t)) group_list ≡ (not t && some_and (λ G. some_and (λ g. u g.is_income && not g.tombstone) (get rows.groups G)) o)
  in_side u true o =
      any_same (λ e. u e.1 && (is_text e.0.id o && false)) (λ e. false) group_list (λ e. ap (λ b. u e.1 && b) (and_false (is_text e.0.id o)) ∙ and_false (u e.1)) ∙ any_none group_list
  in_side u false None =
      any_same (λ e. u e.1 && false) (λ e. false) group_list (λ e. and_false (u e.1)) ∙ any_none group_list
  in_side u false (Some G) =
      any_same (λ e. u e.1 && (eq_by_cmp text_cmp G e.0.id && true)) (λ e. eq_by_cmp text_cmp G e.0.id && u e.1) group_list (λ e. ap (λ b. u e.1 && b) (and_true (eq_by_cmp text_cmp G e.0.id)) ∙ and_comm (u e.1) (eq_by_cmp text_cmp G e.0.id))
      ∙ group_found u G

  pub side_found : (u : Bool → Bool) (q : Text) → is_among text_cmp (categories_of (filter (λ g. u g.is_income) (groups_of rows))) q ≡ some_and (side_row u) (get rows.categories q)
  side_found u q =
      side_any u q group_list
      ∙ any_same (λ e. u e.1 && is_among text_cmp (ids_of_group e.0.id category_list) q) (λ e. u e.1 && some_and (λ c. is_text e.0.id c.cat_group && not c.tombstone) (get rows.categories q)) group_list (λ e. ap (λ b. u e.1 && b) (category_found e.0.id q))
      ∙ by (get rows.categories q)
    where
      by : (o : Option CategoryRow) → list_any (λ e. u e.1 && some_and (λ c. is_text e.0.id c.cat_group && not c.tombstone) o) group_list ≡ some_and (side_row u) o
      by None = any_same (λ e. u e.1 && false) (λ e. false) group_list (λ e. and_false (u e.1)) ∙ any_none group_list
      by (Some c) = in_side u c.tombstone c.cat_group

-- ---- as the rows say it
pub all_pass : {A : Type 0} (xs : List A) → filter (λ (x : A). true) xs ≡ xs
all_pass [] = refl
all_pass (x ∷ xs) = ap (λ ys. x ∷ ys) (all_pass xs)

on_side : (u : Bool → Bool) (t : Bool) (o : Option GroupRow) → (not t && some_and (λ g. u g.is_income && not g.tombstone) o) ≡ ((not t && some_and (λ g. not g.tombstone) o) && some_and (λ g. u g.is_income) o)
on_side u true o = refl
on_side u false None = refl
on_side u false (Some g) = and_comm (u g.is_income) (not g.tombstone)

expense_side : (t : Bool) (o : Option GroupRow) → (not t && some_and (λ g. not g.is_income && not g.tombstone) o) ≡ ((not t && some_and (λ g. not g.tombstone) o) && not (some_and (λ g. g.is_income) o))
expense_side true o = refl
expense_side false None = refl
expense_side false (Some g) = and_comm (not g.is_income) (not g.tombstone)

module _ (rows : Rows) where
  income_row : (c : CategoryRow) → side_row rows (λ b. b) c ≡ (is_live_category_row rows c && has_income_group rows c)
  income_row c = by c.cat_group
    where
      by : (o : Option Text) → (not c.tombstone && some_and (λ G. some_and (λ g. g.is_income && not g.tombstone) (get rows.groups G)) o) ≡ ((not c.tombstone && some_and (is_live_group rows) o) && some_and (λ g. some_and (λ row. row.is_income) (get rows.groups g)) o)
      by None = and_false (not c.tombstone) ∙ sym (and_false (not c.tombstone && false))
      by (Some G) = on_side (λ b. b) c.tombstone (get rows.groups G)

  expense_row : (c : CategoryRow) → side_row rows not c ≡ (is_live_category_row rows c && not (has_income_group rows c))
  expense_row c = by c.cat_group
    where
      by : (o : Option Text) → (not c.tombstone && some_and (λ G. some_and (λ g. not g.is_income && not g.tombstone) (get rows.groups G)) o) ≡ ((not c.tombstone && some_and (is_live_group rows) o) && not (some_and (λ g. some_and (λ row. row.is_income) (get rows.groups g)) o))
      by None = and_false (not c.tombstone) ∙ sym (and_true (not c.tombstone && false) ∙ and_false (not c.tombstone))
      by (Some G) = expense_side c.tombstone (get rows.groups G)

  pub some_same : (p q : CategoryRow → Bool) (o : Option CategoryRow) → ((c : CategoryRow) → p c ≡ q c) → some_and p o ≡ some_and q o
  some_same p q None h = refl
  some_same p q (Some c) h = h c

  pub live_ones_are_listed_lem : LiveOnesAreListed rows
  live_ones_are_listed_lem = record {
    group = λ q. among_any (map (λ g. g.id) (groups_of rows)) q
        ∙ any-map (eq_by_cmp text_cmp q) (λ (g : BudgetGroup). g.id) (groups_of rows)
        ∙ any-map (λ (g : BudgetGroup). eq_by_cmp text_cmp q g.id) (λ (e : Place × Bool). record { id = e.0.id; is_income = e.1; categories = ids_of_group e.0.id (category_list rows) }) (group_list rows)
        ∙ any_same (λ e. eq_by_cmp text_cmp q e.0.id) (λ e. eq_by_cmp text_cmp q e.0.id && true) (group_list rows) (λ e. sym (and_true (eq_by_cmp text_cmp q e.0.id)))
        ∙ group_found rows (λ b. true) q;
    category = λ q. ap (λ gs. is_among text_cmp (categories_of gs) q) (sym (all_pass (groups_of rows))) ∙ side_found rows (λ b. true) q;
    income = λ q. side_found rows (λ b. b) q ∙ some_same (side_row rows (λ b. b)) (λ c. is_live_category_row rows c && has_income_group rows c) (get rows.categories q) income_row;
    expense = λ q. side_found rows not q ∙ some_same (side_row rows not) (λ c. is_live_category_row rows c && not (has_income_group rows c)) (get rows.categories q) expense_row;
  }
