-- What is marked is among what is touched.
use Rattle.std.proofs.Common.{◌≡◌, ◌≤◌, Bool, true, false, cond, List, [], ◌∷◌, ◌++◌, map, filter, length, Option, Some, None, refl, ap, sym, ◌∙◌, true≢false}
use Rattle.std.specs.Prelude.{◌||◌, flat_map}
use Rattle.std.specs.List.{AllByRecursion}
use Rattle.std.specs.Ordering.{eq_by_cmp}
use Rattle.finite_sums.specs.Maps.{Text, text_cmp, is_among, some_and, AreDistinct}
use Rattle.book_rows.specs.declared.rows.Rows.{Rows}
use Rattle.book_rows.specs.declared.column.Dataset.{Dataset}
use Rattle.book_rows.specs.declared.column.Dataset.TheVariants.{CategoryGroups, Categories, ZeroBudgets}
use Rattle.envelope_cells.proofs.Among.{same_texts, itself, or_left, or_right, or_either, among-append, in_front, in_back}
use Rattle.dirty_cells.specs.Changes.{Change, AreDifferent, Within, with_fields}
use Rattle.dirty_cells.specs.Marking.{set_in, listed, category_at, budget_category, members, group_at, categories_in, groups_in, categories_by, groups_by}
use Rattle.dirty_cells.specs.Bound.{different, same_dataset, changed, touched_txs, touched_categories, touched_groups}
use Rattle.dirty_cells.specs.Followed.{Follows}
use Rattle.dirty_cells.specs.declared.marks.Marked.{Marked}
use Rattle.dirty_cells.proofs.Counting.{no_more, among-distinct}
use Rattle.dirty_cells.proofs.Gathered.{among_flat, all_map}

-- ---- what elements give
-- what is among all that elements give, one of them gives
pub from_flat : {X : Type 0} (f : X → List Text) (P : Type 0) (xs : List X) (q : Text) → AllByRecursion (λ x. is_among text_cmp (f x) q ≡ true → P) xs → is_among text_cmp (flat_map f xs) q ≡ true → P
from_flat f P [] q h k = absurd (true≢false (sym k))
from_flat f P (x ∷ xs) q h k = or_either (is_among text_cmp (f x) q) (is_among text_cmp (flat_map f xs) q) (sym (among-append (f x) (flat_map f xs) q) ∙ k) h.0 (from_flat f P xs q h.1)

pub all_of : (P : Text → Type 0) (xs : List Text) → ((x : Text) → is_among text_cmp xs x ≡ true → P x) → AllByRecursion P xs
all_of P [] h = tt
all_of P (x ∷ xs) h = (h x (or_left _ _ (itself x)), all_of P xs (λ y k. h y (or_right (eq_by_cmp text_cmp y x) _ k)))

pub from_texts : (f : Text → List Text) (P : Type 0) (xs : List Text) (q : Text) → ((x : Text) → is_among text_cmp xs x ≡ true → is_among text_cmp (f x) q ≡ true → P) → is_among text_cmp (flat_map f xs) q ≡ true → P
from_texts f P xs q h k = from_flat f P xs q (all_of (λ x. is_among text_cmp (f x) q ≡ true → P) xs h) k

-- ---- the rows that change
abbrev rows_in : Dataset → List Change → List Text
rows_in d cs = map (λ c. c.0.row) (filter (λ c. some_and (same_dataset d) (set_in c)) cs)

row_more : (d : Dataset) (x : Change) (cs : List Change) (q : Text) → is_among text_cmp (rows_in d cs) q ≡ true → is_among text_cmp (rows_in d (x ∷ cs)) q ≡ true
row_more d x cs q h = by (some_and (same_dataset d) (set_in x))
  where
    by : (b : Bool) → is_among text_cmp (map (λ c. c.0.row) (cond b (x ∷ filter (λ c. some_and (same_dataset d) (set_in c)) cs) (filter (λ c. some_and (same_dataset d) (set_in c)) cs))) q ≡ true
    by true = or_right (eq_by_cmp text_cmp q x.0.row) _ h
    by false = h

row_here : (d : Dataset) (x : Change) (cs : List Change) → some_and (same_dataset d) (set_in x) ≡ true → is_among text_cmp (rows_in d (x ∷ cs)) x.0.row ≡ true
row_here d x cs e = ap (λ b. is_among text_cmp (map (λ c. c.0.row) (cond b (x ∷ filter (λ c. some_and (same_dataset d) (set_in c)) cs) (filter (λ c. some_and (same_dataset d) (set_in c)) cs))) x.0.row) e ∙ or_left _ _ (itself x.0.row)

-- a change's row is among those that change
abbrev pub IsChanged : List Change → Change → Type 0
IsChanged all c = (d : Dataset) → some_and (same_dataset d) (set_in c) ≡ true → is_among text_cmp (changed d all) c.0.row ≡ true

changed_by : (all cs : List Change) → ((d : Dataset) (q : Text) → is_among text_cmp (rows_in d cs) q ≡ true → is_among text_cmp (changed d all) q ≡ true) → AllByRecursion (IsChanged all) cs
changed_by all [] h = tt
changed_by all (x ∷ cs) h = ((λ d e. h d x.0.row (row_here d x cs e)), changed_by all cs (λ d q k. h d q (row_more d x cs q k)))

pub all_changed : (cs : List Change) → AllByRecursion (IsChanged cs) cs
all_changed cs = changed_by cs cs (λ d q k. among-distinct (rows_in d cs) q ∙ k)

only_one : (q x : Text) → is_among text_cmp (x ∷ []) q ≡ true → q ≡ x
only_one q x h = or_either (eq_by_cmp text_cmp q x) false h (λ e. same_texts q x e) (λ e. absurd (true≢false (sym e)))

-- ---- marks
module _ (r : Rows) (cs : List Change) (m : Marked) (f : Follows r cs m) (d : AreDifferent cs) where
  abbrev s : Rows
  s = with_fields r cs

  abbrev all_txs : List Text
  all_txs = touched_txs r s cs

  abbrev by_txs : List Text
  by_txs = flat_map (λ id. category_at r id ++ category_at s id) all_txs

  abbrev by_budgets : List Text
  by_budgets = flat_map (λ id. listed (budget_category id)) (changed ZeroBudgets cs)

  abbrev by_groups : List Text
  by_groups = flat_map (λ g. members r g ++ members s g) (changed CategoryGroups cs)

  abbrev two : List Text
  two = by_txs ++ by_budgets

  abbrev three : List Text
  three = two ++ changed Categories cs

  from_txs : (q : Text) → is_among text_cmp by_txs q ≡ true → is_among text_cmp (touched_categories r s cs) q ≡ true
  from_txs q k = in_front three by_groups q (in_front two (changed Categories cs) q (in_front by_txs by_budgets q k))

  from_budgets : (q : Text) → is_among text_cmp by_budgets q ≡ true → is_among text_cmp (touched_categories r s cs) q ≡ true
  from_budgets q k = in_front three by_groups q (in_front two (changed Categories cs) q (in_back by_txs by_budgets q k))

  from_own : (q : Text) → is_among text_cmp (changed Categories cs) q ≡ true → is_among text_cmp (touched_categories r s cs) q ≡ true
  from_own q k = in_front three by_groups q (in_back two (changed Categories cs) q k)

  from_groups : (q : Text) → is_among text_cmp by_groups q ≡ true → is_among text_cmp (touched_categories r s cs) q ≡ true
  from_groups q k = in_back three by_groups q k

  old_tx : (q : Text) → is_among text_cmp (flat_map (category_at r) f.ids) q ≡ true → is_among text_cmp (touched_categories r s cs) q ≡ true
  old_tx q k = from_texts (category_at r) (is_among text_cmp (touched_categories r s cs) q ≡ true) f.ids q
      (λ x i e. from_txs q (among_flat (λ id. category_at r id ++ category_at s id) all_txs x q ((f.within d).each x i) (in_front (category_at r x) (category_at s x) q e))) k

  new_tx : (q : Text) → is_among text_cmp (flat_map (category_at s) f.ids) q ≡ true → is_among text_cmp (touched_categories r s cs) q ≡ true
  new_tx q k = from_texts (category_at s) (is_among text_cmp (touched_categories r s cs) q ≡ true) f.ids q
      (λ x i e. from_txs q (among_flat (λ id. category_at r id ++ category_at s id) all_txs x q ((f.within d).each x i) (in_back (category_at r x) (category_at s x) q e))) k

  -- a category whose own row changes
  own_category : (q row : Text) → is_among text_cmp (changed Categories cs) row ≡ true → q ≡ row → is_among text_cmp (touched_categories r s cs) q ≡ true
  own_category q row h e = from_own q (ap (is_among text_cmp (changed Categories cs)) e ∙ h)

  category_by : (q : Text) (c : Change) → IsChanged cs c → (o : Option Dataset) → set_in c ≡ o → is_among text_cmp (categories_in r o c.0.row) q ≡ true → is_among text_cmp (touched_categories r s cs) q ≡ true
  category_by q c h None e k = absurd (true≢false (sym k))
  category_by q c h (Some Categories) e k = own_category q c.0.row (h Categories (ap (some_and (same_dataset Categories)) e)) (only_one q c.0.row k)
  category_by q c h (Some CategoryGroups) e k =
      from_groups q (among_flat (λ g. members r g ++ members s g) (changed CategoryGroups cs) c.0.row q (h CategoryGroups (ap (some_and (same_dataset CategoryGroups)) e)) (in_front (members r c.0.row) (members s c.0.row) q k))
  category_by q c h (Some ZeroBudgets) e k =
      from_budgets q (among_flat (λ id. listed (budget_category id)) (changed ZeroBudgets cs) c.0.row q (h ZeroBudgets (ap (some_and (same_dataset ZeroBudgets)) e)) k)
  category_by q c h (Some other) e k = absurd (true≢false (sym k))

  changed_category : (q : Text) → is_among text_cmp (flat_map (categories_by r) cs) q ≡ true → is_among text_cmp (touched_categories r s cs) q ≡ true
  changed_category q k = from_flat (categories_by r) (is_among text_cmp (touched_categories r s cs) q ≡ true) cs q
      (all_map (IsChanged cs) (λ c. is_among text_cmp (categories_by r c) q ≡ true → is_among text_cmp (touched_categories r s cs) q ≡ true) cs (λ c h. category_by q c h (set_in c) refl) (all_changed cs)) k

  pub categories_within : Within m.categories (touched_categories r s cs)
  categories_within = record {
    each = λ q k. or_either (is_among text_cmp (flat_map (category_at s) f.ids) q) (is_among text_cmp (flat_map (category_at r) f.ids) q || is_among text_cmp (flat_map (categories_by r) cs) q) (sym (f.followed.categories q) ∙ k)
        (λ e. new_tx q e)
        (λ e. or_either (is_among text_cmp (flat_map (category_at r) f.ids) q) (is_among text_cmp (flat_map (categories_by r) cs) q) e (λ i. old_tx q i) (λ i. changed_category q i));
  }

  -- ---- groups
  abbrev by_categories : List Text
  by_categories = flat_map (λ c. group_at r c ++ group_at s c) (touched_categories r s cs)

  group_by : (q : Text) (c : Change) → IsChanged cs c → (o : Option Dataset) → set_in c ≡ o → is_among text_cmp (groups_in r o c.0.row) q ≡ true → is_among text_cmp (touched_groups r s cs) q ≡ true
  group_by q c h None e k = absurd (true≢false (sym k))
  group_by q c h (Some Categories) e k = in_front by_categories (changed CategoryGroups cs) q
      (among_flat (λ c. group_at r c ++ group_at s c) (touched_categories r s cs) c.0.row q (own_category c.0.row c.0.row (h Categories (ap (some_and (same_dataset Categories)) e)) refl) (in_front (group_at r c.0.row) (group_at s c.0.row) q k))
  group_by q c h (Some CategoryGroups) e k = in_back by_categories (changed CategoryGroups cs) q
      (ap (is_among text_cmp (changed CategoryGroups cs)) (only_one q c.0.row k) ∙ h CategoryGroups (ap (some_and (same_dataset CategoryGroups)) e))
  group_by q c h (Some other) e k = absurd (true≢false (sym k))

  changed_group : (q : Text) → is_among text_cmp (flat_map (groups_by r) cs) q ≡ true → is_among text_cmp (touched_groups r s cs) q ≡ true
  changed_group q k = from_flat (groups_by r) (is_among text_cmp (touched_groups r s cs) q ≡ true) cs q
      (all_map (IsChanged cs) (λ c. is_among text_cmp (groups_by r c) q ≡ true → is_among text_cmp (touched_groups r s cs) q ≡ true) cs (λ c h. group_by q c h (set_in c) refl) (all_changed cs)) k

  marked_group : (q : Text) → is_among text_cmp (flat_map (group_at s) m.categories) q ≡ true → is_among text_cmp (touched_groups r s cs) q ≡ true
  marked_group q k = from_texts (group_at s) (is_among text_cmp (touched_groups r s cs) q ≡ true) m.categories q
      (λ x i e. in_front by_categories (changed CategoryGroups cs) q (among_flat (λ c. group_at r c ++ group_at s c) (touched_categories r s cs) x q (categories_within.each x i) (in_back (group_at r x) (group_at s x) q e))) k

  pub groups_within : Within m.groups (touched_groups r s cs)
  groups_within = record {
    each = λ q k. or_either (is_among text_cmp (flat_map (group_at s) m.categories) q) (is_among text_cmp (flat_map (groups_by r) cs) q) (sym (f.followed.groups q) ∙ k) (λ e. marked_group q e) (λ e. changed_group q e);
  }

  pub few_categories : AreDistinct text_cmp m.categories → length m.categories ≤ different (touched_categories r s cs)
  few_categories h = no_more m.categories (touched_categories r s cs) h categories_within

  pub few_groups : AreDistinct text_cmp m.groups → length m.groups ≤ different (touched_groups r s cs)
  few_groups h = no_more m.groups (touched_groups r s cs) h groups_within
