-- In which order groups, categories and cells stand on a sheet.
use Rattle.std.proofs.Common.{◌≡◌, ℕ, Bool, true, false, cond, List, [], ◌∷◌, ◌++◌, map, flat_map, Option, Some, refl, ap, sym, ◌∙◌, subst}
use lib.IntN.{ℤ}
use Rattle.std.specs.Prelude.{not}
use Rattle.std.specs.List.{filter, AllByRecursion}
use Rattle.std.specs.List.Sorted.{IsStrictlySortedBy}
use Rattle.std.specs.declared.cmp.Ordering.{Ordering}
use Rattle.std.specs.declared.cmp.Ordering.TheVariants.{Less, Equal, Greater}
use Rattle.std.specs.Ordering.{match_ordering, ordering_reverse, int_cmp, ordering_then, eq_by_cmp}
use Rattle.std.specs.BTreeMap.{insert_entry}
use Rattle.std.specs.Cmp.{eq_by_cmp_equiv}
use Rattle.std.specs.FinMap.{find, is_sorted, get, entries, entries_sorted, get-entries}
use Rattle.finite_sums.specs.Maps.{Text, Texts, text_cmp, is_among, value_or_zero, some_and}
use Rattle.finite_sums.proofs.MapSums.{so, sorted_tail}
use Rattle.finite_sums.proofs.Texts.{text_total, text_same}
use Rattle.book_rows.specs.declared.rows.Rows.{Rows}
use Rattle.book_rows.specs.declared.rows.GroupRow.{GroupRow}
use Rattle.book_rows.specs.declared.rows.CategoryRow.{CategoryRow}
use Rattle.book_rows.specs.Parts.{is_text}
use Rattle.book_rows.specs.Live.{is_live_group, is_live_category_row, is_live_category}
use Rattle.split_transfer.proofs.Basics.{some_is, not_true, either, bool_cases, names_is, and_both}
use Rattle.envelope_cells.specs.declared.name.Cell.{Cell}
use Rattle.envelope_cells.specs.declared.name.CellName.{CellName}
use Rattle.envelope_cells.specs.Budget.{Budget, categories_of}
use Rattle.envelope_cells.specs.Places.{place_cmp, places_total, placed, group_places, category_places, ids_of_group, with_categories}
use Rattle.envelope_cells.specs.Ids.{month_number}
use Rattle.envelope_cells.specs.BudgetOf.{budget_of, groups_of}
use Rattle.envelope_cells.specs.SheetOf.{sheet_of, month_cells, groups_cells, group_cells, categories_cells, category_cells}
use Rattle.envelope_cells.specs.Text.{cell_line, sheet_text}
use Rattle.envelope_cells.proofs.Among.{among-append, same_texts}
use Rattle.envelope_cells.proofs.Rows.{later}
use Rattle.envelope_cells.proofs.Distinct.{then_equal}
use Rattle.envelope_cells.proofs.Listed.{live_ones_are_listed_lem}
use Rattle.book_laws.specs.Ordered.{row_cmp, IsCategoryOf, IsGroupOf, names_of, month_kinds, group_kinds, category_kinds, group_names, SheetsAreInOrder}

-- ---- places that rise

-- a place, and a group of a budget
abbrev DomainOf : {X Y : Type 0} → (X → Y) → Type 0
DomainOf {X} f = X

abbrev Place : Type 0
Place = DomainOf place_cmp

abbrev ListedIn : {X Y : Type 0} → (List X → Y) → Type 0
ListedIn {X} f = X

abbrev BudgetGroup : Type 0
BudgetGroup = ListedIn categories_of

abbrev AllAbove : {V : Type 0} → Place → List (Place × V) → Type 0
AllAbove k [] = Unit {0}
AllAbove k (e ∷ es) = (place_cmp k e.0 ≡ Less) × AllAbove k es

abbrev Rises : {V : Type 0} → List (Place × V) → Type 0
Rises [] = Unit {0}
Rises (e ∷ es) = AllAbove e.0 es × Rises es

turned : (k j : Place) → place_cmp k j ≡ Greater → place_cmp j k ≡ Less
turned k j h = places_total.antisymm j k ∙ ap ordering_reverse h

module _ {V : Type 0} where
  above_more : (j k : Place) (es : List (Place × V)) → place_cmp j k ≡ Less → AllAbove k es → AllAbove j es
  above_more j k [] p h = tt
  above_more j k (e ∷ es) p h = (places_total.trans j k e.0 p h.0, above_more j k es p h.1)

  above_put : (j k : Place) (v : V) (es : List (Place × V)) → place_cmp j k ≡ Less → AllAbove j es → AllAbove j (insert_entry place_cmp es k v)
  above_put j k v [] p h = (p, tt)
  above_put j k v (e ∷ es) p h = by (place_cmp k e.0) (above_put j k v es p h.1)
    where
      by : (o : Ordering) → AllAbove j (insert_entry place_cmp es k v)
          → AllAbove j (match_ordering o ((k, v) ∷ e ∷ es) ((e.0, v) ∷ es) (e ∷ insert_entry place_cmp es k v))
      by Less r = (p, h)
      by Equal r = h
      by Greater r = (h.0, r)

  rises_put : (k : Place) (v : V) (es : List (Place × V)) → Rises es → Rises (insert_entry place_cmp es k v)
  rises_put k v [] h = (tt, tt)
  rises_put k v (e ∷ es) h = by (place_cmp k e.0) refl (rises_put k v es h.1)
    where
      by : (o : Ordering) → place_cmp k e.0 ≡ o → Rises (insert_entry place_cmp es k v)
          → Rises (match_ordering o ((k, v) ∷ e ∷ es) ((e.0, v) ∷ es) (e ∷ insert_entry place_cmp es k v))
      by Less p r = ((p, above_more k e.0 es p h.0), h)
      by Equal p r = h
      by Greater p r = (above_put e.0 k v es (turned k e.0 p) h.0, r)

  rises_placed : (es done : List (Place × V)) → Rises done → Rises (placed es done)
  rises_placed [] done h = h
  rises_placed (e ∷ es) done h = rises_placed es (insert_entry place_cmp done e.0 e.1) (rises_put e.0 e.1 done h)

  above_some : (k : Place) (p : Place × V → Bool) (es : List (Place × V)) → AllAbove k es → AllAbove k (filter p es)
  above_some k p [] h = tt
  above_some k p (e ∷ es) h = by (p e) (above_some k p es h.1)
    where
      by : (b : Bool) → AllAbove k (filter p es) → AllAbove k (cond b (e ∷ filter p es) (filter p es))
      by true r = (h.0, r)
      by false r = r

  rises_some : (p : Place × V → Bool) (es : List (Place × V)) → Rises es → Rises (filter p es)
  rises_some p [] h = tt
  rises_some p (e ∷ es) h = by (p e) (rises_some p es h.1)
    where
      by : (b : Bool) → Rises (filter p es) → Rises (cond b (e ∷ filter p es) (filter p es))
      by true r = (above_some e.0 p es h.0, r)
      by false r = r

-- ---- the places of rows

-- a row that was kept has this place, and this value
module _ {X V : Type 0} (number : X → ℤ) (f : X → V) (live : X → Bool) (m : Texts X) where
  abbrev IsOf : Place × V → Type 0
  IsOf e = (x : X) × (get m e.0.id ≡ Some x) × (live x ≡ true) × (number x ≡ e.0.sort_order) × (f x ≡ e.1)

  abbrev Each : List (Place × V) → Type 0
  Each [] = Unit {0}
  Each (e ∷ es) = IsOf e × Each es

  -- of two with one place the later one says what the value is
  replaced : (k : Place) (v : V) (e : Place × V) → place_cmp k e.0 ≡ Equal → IsOf (k, v) → IsOf e → IsOf (e.0, v)
  replaced k v e p a b =
      let same : k.id ≡ e.0.id = text_same k.id e.0.id (then_equal (int_cmp k.sort_order e.0.sort_order) (text_cmp k.id e.0.id) p) in
      let one : b.0 ≡ a.0 = some_is b.0 a.0 (sym b.1 ∙ ap (get m) (sym same) ∙ a.1) in
      (b.0, b.1, b.2, b.3, ap f one ∙ a.4)

  each_put : (k : Place) (v : V) (es : List (Place × V)) → IsOf (k, v) → Each es → Each (insert_entry place_cmp es k v)
  each_put k v [] p h = (p, tt)
  each_put k v (e ∷ es) p h = by (place_cmp k e.0) refl (each_put k v es p h.1)
    where
      by : (o : Ordering) → place_cmp k e.0 ≡ o → Each (insert_entry place_cmp es k v)
          → Each (match_ordering o ((k, v) ∷ e ∷ es) ((e.0, v) ∷ es) (e ∷ insert_entry place_cmp es k v))
      by Less q r = (p, h)
      by Equal q r = (replaced k v e q p h.0, h.1)
      by Greater q r = (h.0, r)

  each_placed : (es done : List (Place × V)) → Each es → Each done → Each (placed es done)
  each_placed [] done h k = k
  each_placed (e ∷ es) done h k = each_placed es (insert_entry place_cmp done e.0 e.1) h.1 (each_put e.0 e.1 done h.0 k)

  each_some : (p : Place × V → Bool) (es : List (Place × V)) → Each es → Each (filter p es)
  each_some p [] h = tt
  each_some p (e ∷ es) h = by (p e) (each_some p es h.1)
    where
      by : (b : Bool) → Each (filter p es) → Each (cond b (e ∷ filter p es) (filter p es))
      by true r = (h.0, r)
      by false r = r

  abbrev place_of : Text × X → Place × V
  place_of e = (record { sort_order = number e.1; id = e.0 }, f e.1)

  each_row : (es : List (Text × X)) → is_sorted text_cmp es ≡ true → ((q : Text) (x : X) → find text_cmp q es ≡ Some x → get m q ≡ Some x)
      → Each (map place_of (filter (λ e. live e.1) es))
  each_row [] s h = tt
  each_row (e ∷ es) s h =
      by (live e.1) refl (h e.0 e.1 (ap (λ b. cond b (Some e.1) (find text_cmp e.0 es)) ((eq_by_cmp_equiv text_total).refl e.0)))
      (each_row es (sorted_tail text_total text_same e es s) (λ q x found. h q x (later e es s q x found (eq_by_cmp text_cmp q e.0) refl)))
    where
      by : (b : Bool) → live e.1 ≡ b → get m e.0 ≡ Some e.1 → Each (map place_of (filter (λ e. live e.1) es))
          → Each (map place_of (cond b (e ∷ filter (λ e. live e.1) es) (filter (λ e. live e.1) es)))
      by true l there r = ((e.1, there, l, refl, refl), r)
      by false l there r = r

  each_place : Each (placed (map place_of (filter (λ e. live e.1) (entries m))) [])
  each_place =
      each_placed (map place_of (filter (λ e. live e.1) (entries m))) []
      (each_row (entries m) (so _ (entries_sorted m)) (λ q x found. get-entries m q ∙ found)) tt

  -- places that rise have ids in order
  number_is : (e : Place × V) → IsOf e → value_or_zero number (get m e.0.id) ≡ e.0.sort_order
  number_is e h = ap (value_or_zero number) h.1 ∙ h.3

  less_is : (d e : Place × V) → IsOf d → IsOf e → place_cmp d.0 e.0 ≡ Less → row_cmp number m d.0.id e.0.id ≡ Less
  less_is d e a b less =
      ap (λ n. ordering_then (int_cmp n (value_or_zero number (get m e.0.id))) (text_cmp d.0.id e.0.id)) (number_is d a)
      ∙ ap (λ n. ordering_then (int_cmp d.0.sort_order n) (text_cmp d.0.id e.0.id)) (number_is e b)
      ∙ less

  ids_above : (d : Place × V) (es : List (Place × V)) → IsOf d → Each es → AllAbove d.0 es
      → AllByRecursion (λ q. row_cmp number m d.0.id q ≡ Less) (map (λ e. e.0.id) es)
  ids_above d [] a h above = tt
  ids_above d (e ∷ es) a h above = (less_is d e a h.0 above.0, ids_above d es a h.1 above.1)

  ids_rise : (es : List (Place × V)) → Each es → Rises es → IsStrictlySortedBy (row_cmp number m) (map (λ e. e.0.id) es)
  unfolding IsStrictlySortedBy
  ids_rise [] h r = tt
  ids_rise (e ∷ es) h r = (ids_above e es h.0 h.1 r.0, ids_rise es h.1 r.1)

  -- an id among those of some places is that of one of them
  among_places : (p : Place × V → Bool) (es : List (Place × V)) (q : Text) → Each es → is_among text_cmp (map (λ e. e.0.id) (filter p es)) q ≡ true
      → (e : Place × V) × IsOf e × (p e ≡ true) × (q ≡ e.0.id)
  among_places p [] q h k = absurd (none k)
    where
      none : false ≡ true → ⊥
      none k = cc
  among_places p (e ∷ es) q h k = bool_cases (p e) (yes (among_places p es q h.1)) (no (among_places p es q h.1))
    where
      yes : (is_among text_cmp (map (λ e. e.0.id) (filter p es)) q ≡ true → (e : Place × V) × IsOf e × (p e ≡ true) × (q ≡ e.0.id)) → p e ≡ true
          → (e : Place × V) × IsOf e × (p e ≡ true) × (q ≡ e.0.id)
      yes rest t = either (eq_by_cmp text_cmp q e.0.id) (is_among text_cmp (map (λ e. e.0.id) (filter p es)) q)
          (ap (λ b. is_among text_cmp (map (λ e. e.0.id) (cond b (e ∷ filter p es) (filter p es))) q) (sym t) ∙ k)
          (λ same. (e, h.0, t, same_texts q e.0.id same)) rest

      no : (is_among text_cmp (map (λ e. e.0.id) (filter p es)) q ≡ true → (e : Place × V) × IsOf e × (p e ≡ true) × (q ≡ e.0.id)) → p e ≡ false
          → (e : Place × V) × IsOf e × (p e ≡ true) × (q ≡ e.0.id)
      no rest f = rest (ap (λ b. is_among text_cmp (map (λ e. e.0.id) (cond b (e ∷ filter p es) (filter p es))) q) (sym f) ∙ k)

-- ---- the groups of a book

abbrev group_number : GroupRow → ℤ
group_number g = g.sort_order

abbrev group_side : GroupRow → Bool
group_side g = g.is_income

abbrev group_kept : GroupRow → Bool
group_kept g = not g.tombstone

abbrev category_number : CategoryRow → ℤ
category_number c = c.sort_order

abbrev category_group : CategoryRow → Option Text
category_group c = c.cat_group

abbrev category_kept : CategoryRow → Bool
category_kept c = not c.tombstone

module _ (rows : Rows) where
  abbrev groups : List (Place × Bool)
  groups = placed (group_places (entries rows.groups)) []

  abbrev all_categories : List (Place × Option Text)
  all_categories = placed (category_places (entries rows.categories)) []

  abbrev IsGroupPlace : Place × Bool → Type 0
  IsGroupPlace = IsOf group_number group_side group_kept rows.groups

  abbrev AreGroupPlaces : List (Place × Bool) → Type 0
  AreGroupPlaces = Each group_number group_side group_kept rows.groups

  abbrev AreCategoryPlaces : List (Place × Option Text) → Type 0
  AreCategoryPlaces = Each category_number category_group category_kept rows.categories

  group_rows : AreGroupPlaces groups
  group_rows = each_place group_number group_side group_kept rows.groups

  category_rows : AreCategoryPlaces all_categories
  category_rows = each_place category_number category_group category_kept rows.categories

  -- the categories that are listed for a group name it
  own : (group c : Text) → is_among text_cmp (ids_of_group group all_categories) c ≡ true → IsCategoryOf rows group c
  own group c h =
      let e = among_places category_number category_group category_kept rows.categories (λ e. is_text group e.1) all_categories c category_rows h in
      record {
        row = e.1.0;
        there = ap (get rows.categories) e.3 ∙ e.1.1;
        kept = not_true e.1.0.tombstone e.1.2;
        names = e.1.4 ∙ names_is e.0.1 group e.2;
      }

  in_some : (c : Text) (gs : List (Place × Bool)) → is_among text_cmp (categories_of (with_categories all_categories gs)) c ≡ true
      → (group : Text) × (is_among text_cmp (ids_of_group group all_categories) c ≡ true)
  in_some c [] h = absurd (none h)
    where
      none : false ≡ true → ⊥
      none k = cc
  in_some c (e ∷ gs) h =
      either (is_among text_cmp (ids_of_group e.0.id all_categories) c) (is_among text_cmp (categories_of (with_categories all_categories gs)) c)
      (sym (among-append (ids_of_group e.0.id all_categories) (categories_of (with_categories all_categories gs)) c) ∙ h)
      (λ first. (e.0.id, first)) (λ rest. in_some c gs rest)

  -- and all that name it are listed: each stands in some group, which is the one that it names
  all_own : (group c : Text) → is_live_group rows group ≡ true → IsCategoryOf rows group c
      → is_among text_cmp (ids_of_group group all_categories) c ≡ true
  all_own group c live h =
      let named : some_and (is_live_group rows) h.row.cat_group ≡ true = ap (some_and (is_live_group rows)) h.names ∙ live in
      let stands : is_live_category rows c ≡ true =
      ap (some_and (is_live_category_row rows)) h.there
      ∙ and_both (not h.row.tombstone) (some_and (is_live_group rows) h.row.cat_group) (ap not h.kept) named in
      let found = in_some c groups ((live_ones_are_listed_lem rows).category c ∙ stands) in
      let other = own found.0 c found.1 in
      let one : h.row ≡ other.row = some_is h.row other.row (sym h.there ∙ other.there) in
      let same : found.0 ≡ group = some_is found.0 group (sym other.names ∙ ap (λ (r : CategoryRow). r.cat_group) (sym one) ∙ h.names) in
      subst (λ t. is_among text_cmp (ids_of_group t all_categories) c ≡ true) same found.1

  group_is : (e : Place × Bool) → IsGroupPlace e → IsGroupOf rows e.0.id e.1 (ids_of_group e.0.id all_categories)
  group_is e h = record {
    row = h.0;
    there = h.1;
    kept = not_true h.0.tombstone h.2;
    side = sym h.4;
    own = λ c. (own e.0.id c, all_own e.0.id c (ap (some_and group_kept) h.1 ∙ h.2));
    in_order = ids_rise category_number category_group category_kept rows.categories (filter (λ x. is_text e.0.id x.1) all_categories)
        (each_some category_number category_group category_kept rows.categories (λ x. is_text e.0.id x.1) all_categories category_rows)
        (rises_some (λ x. is_text e.0.id x.1) all_categories (rises_placed (category_places (entries rows.categories)) [] tt));
  }

  each_group : (gs : List (Place × Bool)) → AreGroupPlaces gs → AllByRecursion (λ (g : BudgetGroup). IsGroupOf rows g.id g.is_income g.categories) (with_categories all_categories gs)
  each_group [] h = tt
  each_group (e ∷ gs) h = (group_is e h.0, each_group gs h.1)

  ids_are : (gs : List (Place × Bool)) → map (λ e. e.0.id) gs ≡ map (λ (g : BudgetGroup). g.id) (with_categories all_categories gs)
  ids_are [] = refl
  ids_are (e ∷ gs) = ap (λ ids. e.0.id ∷ ids) (ids_are gs)

  groups_rise : IsStrictlySortedBy (row_cmp group_number rows.groups) (map (λ g. g.id) (groups_of rows))
  groups_rise =
      subst (IsStrictlySortedBy (row_cmp group_number rows.groups)) (ids_are groups)
      (ids_rise group_number group_side group_kept rows.groups groups group_rows
      (rises_placed (group_places (entries rows.groups)) [] tt))

-- ---- the cells of a sheet

abbrev names_in : List Cell → List CellName
names_in cells = map (λ c. c.name) cells

names-append : (xs ys : List Cell) → names_in (xs ++ ys) ≡ names_in xs ++ names_in ys
names-append [] ys = refl
names-append (x ∷ xs) ys = ap (λ ns. x.name ∷ ns) (names-append xs ys)

abbrev names_with : ℕ → BudgetGroup → List CellName
names_with month g = group_names month g.id g.is_income g.categories

module _ (b : Budget) (month m : ℕ) where
  category_named : (is_income : Bool) (c : Text) → names_in (category_cells b month m is_income c) ≡ names_of month c (category_kinds is_income)
  category_named true c = refl
  category_named false c = refl

  categories_named : (is_income : Bool) (cs : List Text)
      → names_in (categories_cells b month m is_income cs) ≡ flat_map (λ c. names_of month c (category_kinds is_income)) cs
  categories_named is_income [] = refl
  categories_named is_income (c ∷ cs) =
      names-append (category_cells b month m is_income c) (categories_cells b month m is_income cs)
      ∙ ap (λ ns. ns ++ names_in (categories_cells b month m is_income cs)) (category_named is_income c)
      ∙ ap (λ ns. names_of month c (category_kinds is_income) ++ ns) (categories_named is_income cs)

  group_named : (id : Text) (is_income : Bool) (cs : List Text)
      → names_in (group_cells b month m (record { id = id; is_income = is_income; categories = cs })) ≡ names_of month id (group_kinds is_income)
  group_named id true cs = refl
  group_named id false cs = refl

  groups_named : (gs : List BudgetGroup) → names_in (groups_cells b month m gs) ≡ flat_map (names_with month) gs
  groups_named [] = refl
  groups_named (g ∷ gs) =
      names-append (group_cells b month m g ++ categories_cells b month m g.is_income g.categories) (groups_cells b month m gs)
      ∙ ap (λ ns. ns ++ names_in (groups_cells b month m gs))
      (names-append (group_cells b month m g) (categories_cells b month m g.is_income g.categories)
      ∙ ap (λ ns. ns ++ names_in (categories_cells b month m g.is_income g.categories)) (group_named g.id g.is_income g.categories)
      ∙ ap (λ ns. names_of month g.id (group_kinds g.is_income) ++ ns) (categories_named g.is_income g.categories))
      ∙ ap (λ ns. names_with month g ++ ns) (groups_named gs)

cells_named : (b : Budget) (month : ℕ) → names_in (sheet_of b month) ≡ names_of month [] month_kinds ++ flat_map (names_with month) b.groups
cells_named b month =
    names-append (month_cells b month (month_number month)) (groups_cells b month (month_number month) b.groups)
    ∙ ap (λ ns. names_of month [] month_kinds ++ ns) (groups_named b month (month_number month) b.groups)

lines_are : (cells : List Cell) → sheet_text cells ≡ flat_map cell_line cells
lines_are [] = refl
lines_are (c ∷ cells) = ap (λ t. cell_line c ++ t) (lines_are cells)

pub in_order : (rows : Rows) → SheetsAreInOrder rows
in_order rows = record {
  groups = groups_rise rows;
  group = each_group rows (groups rows) (group_rows rows);
  cells = λ month. cells_named (budget_of rows) month;
  line = λ c. refl;
  month_names = refl;
  group_names = refl;
  category_names = refl;
  lines = λ month. lines_are (sheet_of (budget_of rows) month);
}
