-- What is not marked stays: rows that no change sets, and months before the first that is touched.
use Rattle.std.proofs.Common.{◌≡◌, ℕ, ◌<◌, ◌≤◌, ◌+◌, ◌/◌, ◌%◌, Bool, true, false, cond, List, [], ◌∷◌, map as list_map, length, suc, ltb, Option, Some, None, refl, ap, sym, ◌∙◌, subst, arith, if◌then◌else◌, true≢false}
use Rattle.std.specs.Prelude.{◌||◌, flat_map, is_some, unwrap_or, min}
use Rattle.std.proofs.lemmas.Bool.Decides.{nat_tests}
use Rattle.std.specs.List.{AllByRecursion}
use Rattle.std.specs.Ordering.{eq_by_cmp}
use Rattle.std.specs.FinMap as map
use Rattle.field_values.specs.declared.value.Value.{Value}
use Rattle.finite_sums.specs.Maps.{Text, Texts, text_cmp, is_among, some_and, value_or_zero}
use Rattle.finite_sums.proofs.MapSums.{among-keys_where}
use Rattle.finite_sums.proofs.Texts.{text_total, text_same}
use Rattle.book_rows.specs.declared.rows.Rows.{Rows}
use Rattle.book_rows.specs.declared.rows.TxRow.{TxRow}
use Rattle.book_rows.specs.declared.rows.CategoryRow.{CategoryRow}
use Rattle.book_rows.specs.declared.rows.BudgetRow.{BudgetRow}
use Rattle.book_rows.specs.declared.rows.MonthRow.{MonthRow}
use Rattle.book_rows.specs.declared.column.Dataset.{Dataset}
use Rattle.book_rows.specs.declared.column.Dataset.TheVariants.{CategoryGroups, Categories, ZeroBudgets, ZeroBudgetMonths}
use Rattle.book_rows.specs.declared.column.Column.{Column}
use Rattle.book_rows.specs.Columns.{dataset_of, column_of}
use Rattle.book_rows.specs.Tables.{Table, blank_row, with_column}
use Rattle.book_rows.specs.Rules.{group_table, category_table, budget_table, month_table}
use Rattle.book_rows.specs.Rows.{with_known, with_field}
use Rattle.book_rows.specs.Live.{category_of}
use Rattle.book_rows.specs.Parts.{is_text}
use Rattle.book_rows.specs.Ids.{budget_id, month_id}
use Rattle.book_rows.specs.Months.{is_month, month_of_tx, budget_month, month_row_month}
use Rattle.book_rows.proofs.Keyed.{others_stay}
use Rattle.book_rows.proofs.MonthIds.{budget_month_back, month_row_month_back}
use Rattle.envelope_cells.specs.Ids.{month_at, month_number}
use Rattle.envelope_cells.specs.BudgetOf.{budget_of, groups_of}
use Rattle.envelope_cells.specs.Places.{placed, group_places, category_places, with_categories}
use Rattle.envelope_cells.proofs.Among.{same_texts, itself, or_left, or_right}
use Rattle.dirty_cells.specs.Changes.{Change, with_fields, Spares}
use Rattle.dirty_cells.specs.Grid.{SameBefore, Marks}
use Rattle.dirty_cells.specs.Marking.{dataset_with, set_in, listed, and_then, category_at, budget_category, is_in_group, members, group_at, categories_in, groups_in, month_in, is_order, categories_by, groups_by, month_by, is_rearranged, month_at_tx, number_of, earlier, earliest, IsFollowed}
use Rattle.dirty_cells.specs.declared.marks.Marked.{Marked}
use Rattle.dirty_cells.specs.declared.marks.Begun.{Begun}
use Rattle.std.specs.BTreeSet as set
use Rattle.dirty_cells.proofs.Gathered.{none_of, all_among, all_map, among_flat}
use Rattle.dirty_cells.proofs.Unmarked.{unmarked_sums_stay, earlier_sums_stay}

-- ---- a row that no change sets
module _ {Row : Type 0} (t : Table Row) (rows : Texts Row) (id row : Text) (k : Column) (v : Value) where
  stays_by : (b : Bool) → is_some (t.kind k) ≡ b → (is_some (t.kind k) ≡ true → eq_by_cmp text_cmp id row ≡ false) → map.get (with_column t row k v rows) id ≡ map.get rows id
  stays_by true e h = others_stay t row k v rows id (h e)
  stays_by false e h = ap (λ (b : Bool). map.get (if b then map.insert rows row (t.set k v (unwrap_or (map.get rows row) (blank_row t row))) else rows) id) e

  table_stays : (d : Dataset) → ((if is_some (t.kind k) then Some d else None) ≡ Some d → eq_by_cmp text_cmp id row ≡ false) → map.get (with_column t row k v rows) id ≡ map.get rows id
  table_stays d h = stays_by (is_some (t.kind k)) refl (λ e. h (ap (λ (b : Bool). if b then Some d else None) e))

-- a change sets no row of this id in a dataset
abbrev IsOff : Dataset → Text → Change → Type 0
IsOff d id x = set_in x ≡ Some d → eq_by_cmp text_cmp id x.0.row ≡ false

module _ (id : Text) (v : Value) (s : Rows) (row : Text) where
  category_stays : (d : Option Dataset) (k : Option Column) → (dataset_with d k ≡ Some Categories → eq_by_cmp text_cmp id row ≡ false) → map.get (with_known d k row v s).categories id ≡ map.get s.categories id
  category_stays None k h = refl
  category_stays (Some d) None h = refl
  category_stays (Some Categories) (Some k) h = table_stays category_table s.categories id row k v Categories h
  category_stays (Some other) (Some k) h = refl

  group_stays_at : (d : Option Dataset) (k : Option Column) → (dataset_with d k ≡ Some CategoryGroups → eq_by_cmp text_cmp id row ≡ false) → map.get (with_known d k row v s).groups id ≡ map.get s.groups id
  group_stays_at None k h = refl
  group_stays_at (Some d) None h = refl
  group_stays_at (Some CategoryGroups) (Some k) h = table_stays group_table s.groups id row k v CategoryGroups h
  group_stays_at (Some other) (Some k) h = refl

  budget_stays : (d : Option Dataset) (k : Option Column) → (dataset_with d k ≡ Some ZeroBudgets → eq_by_cmp text_cmp id row ≡ false) → map.get (with_known d k row v s).budgets id ≡ map.get s.budgets id
  budget_stays None k h = refl
  budget_stays (Some d) None h = refl
  budget_stays (Some ZeroBudgets) (Some k) h = table_stays budget_table s.budgets id row k v ZeroBudgets h
  budget_stays (Some other) (Some k) h = refl

  month_stays_at : (d : Option Dataset) (k : Option Column) → (dataset_with d k ≡ Some ZeroBudgetMonths → eq_by_cmp text_cmp id row ≡ false) → map.get (with_known d k row v s).months id ≡ map.get s.months id
  month_stays_at None k h = refl
  month_stays_at (Some d) None h = refl
  month_stays_at (Some ZeroBudgetMonths) (Some k) h = table_stays month_table s.months id row k v ZeroBudgetMonths h
  month_stays_at (Some other) (Some k) h = refl

module _ (id : Text) where
  categories_stay : (s : Rows) (cs : List Change) → AllByRecursion (IsOff Categories id) cs → map.get s.categories id ≡ map.get (with_fields s cs).categories id
  categories_stay s [] h = refl
  categories_stay s (x ∷ cs) h = sym (category_stays id x.1 s x.0.row (dataset_of x.0.dataset) (column_of x.0.column) h.0) ∙ categories_stay (with_field s x.0 x.1) cs h.1

  groups_stay : (s : Rows) (cs : List Change) → AllByRecursion (IsOff CategoryGroups id) cs → map.get s.groups id ≡ map.get (with_fields s cs).groups id
  groups_stay s [] h = refl
  groups_stay s (x ∷ cs) h = sym (group_stays_at id x.1 s x.0.row (dataset_of x.0.dataset) (column_of x.0.column) h.0) ∙ groups_stay (with_field s x.0 x.1) cs h.1

  budgets_stay : (s : Rows) (cs : List Change) → AllByRecursion (IsOff ZeroBudgets id) cs → map.get s.budgets id ≡ map.get (with_fields s cs).budgets id
  budgets_stay s [] h = refl
  budgets_stay s (x ∷ cs) h = sym (budget_stays id x.1 s x.0.row (dataset_of x.0.dataset) (column_of x.0.column) h.0) ∙ budgets_stay (with_field s x.0 x.1) cs h.1

  months_stay : (s : Rows) (cs : List Change) → AllByRecursion (IsOff ZeroBudgetMonths id) cs → map.get s.months id ≡ map.get (with_fields s cs).months id
  months_stay s [] h = refl
  months_stay s (x ∷ cs) h = sym (month_stays_at id x.1 s x.0.row (dataset_of x.0.dataset) (column_of x.0.column) h.0) ∙ months_stay (with_field s x.0 x.1) cs h.1

-- ---- what is not marked was not set
only_false : (b : Bool) → (b || false) ≡ false → b ≡ false
only_false true h = absurd (true≢false h)
only_false false h = refl

long : (n : ℕ) → ltb (suc (suc (suc (suc (suc (suc (suc n))))))) 7 ≡ false
long n = grind (arith, nat_tests)

-- the category in the id of a budget row is its category
pub category_back : (c : Text) (m : ℕ) → budget_category (budget_id c m) ≡ Some c
unfolding budget_category
category_back c m = ap (λ b. cond b None (Some c)) (long (length c))

module _ (r : Rows) (x : Change) where
  category_off : (c : Text) → is_among text_cmp (categories_by r x) c ≡ false → IsOff Categories c x
  category_off c h e = only_false _ (sym (ap (λ d. is_among text_cmp (categories_in r d x.0.row) c) e) ∙ h)

  group_off : (g : Text) → is_among text_cmp (groups_by r x) g ≡ false → IsOff CategoryGroups g x
  group_off g h e = only_false _ (sym (ap (λ d. is_among text_cmp (groups_in r d x.0.row) g) e) ∙ h)

  budget_off : (c : Text) (m : ℕ) → is_among text_cmp (categories_by r x) c ≡ false → IsOff ZeroBudgets (budget_id c m) x
  budget_off c m h e = by (eq_by_cmp text_cmp (budget_id c m) x.0.row) refl
    where
      by : (b : Bool) → eq_by_cmp text_cmp (budget_id c m) x.0.row ≡ b → b ≡ false
      by true k = absurd (true≢false (sym (
          ap (λ d. is_among text_cmp (categories_in r d x.0.row) c) e
          ∙ ap (λ i. is_among text_cmp (listed (budget_category i)) c) (sym (same_texts (budget_id c m) x.0.row k))
          ∙ ap (λ o. is_among text_cmp (listed o) c) (category_back c m)
          ∙ or_left _ false (itself c)) ∙ h))
      by false k = refl

  owner_off : (c g : Text) (row : CategoryRow) → map.get r.categories c ≡ Some row → row.cat_group ≡ Some g → is_among text_cmp (categories_by r x) c ≡ false → IsOff CategoryGroups g x
  owner_off c g row found named h e = by (eq_by_cmp text_cmp g x.0.row) refl
    where
      by : (b : Bool) → eq_by_cmp text_cmp g x.0.row ≡ b → b ≡ false
      by true k = absurd (true≢false (sym (
          ap (λ d. is_among text_cmp (categories_in r d x.0.row) c) e
          ∙ ap (λ i. is_among text_cmp (members r i) c) (sym (same_texts g x.0.row k))
          ∙ among-keys_where text_total text_same (is_in_group g) r.categories c
          ∙ ap (some_and (is_in_group g)) found
          ∙ ap (is_text g) named ∙ itself g) ∙ h))
      by false k = refl

-- ---- months
valid_month : (k : ℕ) → k < 2760 → is_month (month_at k) ≡ true
valid_month k h =
    let year : month_at k / 100 ≡ 1970 + k / 12 = omega arith in
    let month : month_at k % 100 ≡ k % 12 + 1 = omega arith in
    grind (arith, nat_tests)

number_back : (k : ℕ) → k < 2760 → number_of (month_at k) ≡ k
number_back k h = ap (λ (b : Bool). if b then month_number (month_at k) else 0) (valid_month k h) ∙ same k
  where
    same : (k : ℕ) → month_number (month_at k) ≡ k
    same k = omega arith

pub earliest_low : (n : ℕ) (ms : List (Option ℕ)) → earliest n ms ≤ n
earliest_low n [] = omega arith
earliest_low n (None ∷ ms) = earliest_low n ms
earliest_low n (Some m ∷ ms) = omega (arith, earliest_low (min n (number_of m)) ms)

below_min : (a z n k : ℕ) → a ≤ z → z ≡ min n k → a ≤ k
below_min a z n k h e = omega (arith, h, e)

chained : (a b c : ℕ) → a ≤ b → b ≤ c → a ≤ c
chained a b c h l = omega (arith, h, l)

module _ {X : Type 0} (f : X → Option ℕ) where
  abbrev pub IsNotBefore : ℕ → X → Type 0
  IsNotBefore n x = (m : ℕ) → f x ≡ Some m → n ≤ number_of m

  pub earliest_all : (n : ℕ) (xs : List X) → AllByRecursion (IsNotBefore (earliest n (list_map f xs))) xs
  earliest_all n [] = tt
  earliest_all n (x ∷ xs) = ((λ m e. below_min (earliest (earlier n (f x)) (list_map f xs)) (earlier n (f x)) n (number_of m) (earliest_low (earlier n (f x)) (list_map f xs)) (ap (earlier n) e)), earliest_all (earlier n (f x)) xs)

-- a month before a number is not one that comes first at it
module _ (n k : ℕ) (within : n ≤ 2760) (before : k < n) where
  not_first : (P : Type 0) → n ≤ number_of (month_at k) → P
  not_first P h =
      let low : n ≤ k = subst (λ z. n ≤ z) (number_back k (omega (arith, within, before))) h in
      absurd (omega (arith, low, before))

  budget_before : (c : Text) (x : Change) → IsNotBefore month_by n x → IsOff ZeroBudgets (budget_id c (month_at k)) x
  budget_before c x h e = by (eq_by_cmp text_cmp (budget_id c (month_at k)) x.0.row) refl
    where
      by : (b : Bool) → eq_by_cmp text_cmp (budget_id c (month_at k)) x.0.row ≡ b → b ≡ false
      by true p = not_first (true ≡ false) (h (month_at k) (ap (λ d. month_in d x.0.row) e ∙ ap budget_month (sym (same_texts (budget_id c (month_at k)) x.0.row p)) ∙ budget_month_back c (month_at k) (valid_month k (omega (arith, within, before)))))
      by false p = refl

  month_before : (x : Change) → IsNotBefore month_by n x → IsOff ZeroBudgetMonths (month_id (month_at k)) x
  month_before x h e = by (eq_by_cmp text_cmp (month_id (month_at k)) x.0.row) refl
    where
      by : (b : Bool) → eq_by_cmp text_cmp (month_id (month_at k)) x.0.row ≡ b → b ≡ false
      by true p = not_first (true ≡ false) (h (month_at k) (ap (λ d. month_in d x.0.row) e ∙ ap month_row_month (sym (same_texts (month_id (month_at k)) x.0.row p)) ∙ month_row_month_back (month_at k) (valid_month k (omega (arith, within, before)))))
      by false p = refl

-- ---- where no category and no group is set, the order stays
not_order : (t : Bool) (d : Dataset) → is_order (Some d) ≡ true → is_order (if t then Some d else None) ≡ false → t ≡ false
not_order true d h k = absurd (true≢false (sym h ∙ k))
not_order false d h k = refl

unset : {Row : Type 0} (t : Table Row) (rows : Texts Row) (row : Text) (k : Column) (v : Value) → is_some (t.kind k) ≡ false → with_column t row k v rows ≡ rows
unset t rows row k v e = ap (λ (b : Bool). if b then map.insert rows row (t.set k v (unwrap_or (map.get rows row) (blank_row t row))) else rows) e

module _ (v : Value) (s : Rows) (row : Text) where
  order_stays : (d : Option Dataset) (k : Option Column) → is_order (dataset_with d k) ≡ false → groups_of (with_known d k row v s) ≡ groups_of s
  order_stays None k h = refl
  order_stays (Some d) None h = refl
  order_stays (Some Categories) (Some k) h = ap (λ (m : Texts CategoryRow). with_categories (placed (category_places (map.entries m)) []) (placed (group_places (map.entries s.groups)) [])) (unset category_table s.categories row k v (not_order (is_some (category_table.kind k)) Categories refl h))
  order_stays (Some CategoryGroups) (Some k) h = ap (λ m. with_categories (placed (category_places (map.entries s.categories)) []) (placed (group_places (map.entries m)) [])) (unset group_table s.groups row k v (not_order (is_some (group_table.kind k)) CategoryGroups refl h))
  order_stays (Some other) (Some k) h = refl

pub orders_stay : (s : Rows) (cs : List Change) → is_rearranged cs ≡ false → groups_of s ≡ groups_of (with_fields s cs)
orders_stay s [] h = refl
orders_stay s (x ∷ cs) h = by (is_order (set_in x)) refl h (orders_stay (with_field s x.0 x.1) cs)
  where
    by : (b : Bool) → is_order (set_in x) ≡ b → (b || is_rearranged cs) ≡ false → (is_rearranged cs ≡ false → groups_of (with_field s x.0 x.1) ≡ groups_of (with_fields (with_field s x.0 x.1) cs)) → groups_of s ≡ groups_of (with_fields (with_field s x.0 x.1) cs)
    by true e k rest = absurd (true≢false k)
    by false e k rest = sym (order_stays x.1 s x.0.row (dataset_of x.0.dataset) (column_of x.0.column) e) ∙ rest k

-- ---- all together
third : (a b c : Bool) → (a || (b || c)) ≡ false → c ≡ false
third true b c h = absurd (true≢false h)
third false true c h = absurd (true≢false h)
third false false c h = h

second : (a b : Bool) → (a || b) ≡ false → b ≡ false
second true b h = absurd (true≢false h)
second false b h = h

-- a category that names a group has it
named_at : (rows : Rows) (c g : Text) (o : Option CategoryRow) → some_and (λ (row : CategoryRow). is_text g row.cat_group) o ≡ true → is_among text_cmp (listed (and_then (λ (row : CategoryRow). row.cat_group) o)) g ≡ true
named_at rows c g None h = absurd (true≢false (sym h))
named_at rows c g (Some row) h = by row.cat_group h
  where
    by : (o : Option Text) → is_text g o ≡ true → is_among text_cmp (listed o) g ≡ true
    by None k = absurd (true≢false (sym k))
    by (Some own) k = or_left _ false (ap (eq_by_cmp text_cmp g) (same_texts own g k) ∙ itself g)

module _ (r : Rows) (changes : List Change) (ids : List Text) (m : Marked) (f : IsFollowed r (with_fields r changes) changes ids m) (spares : Spares r (with_fields r changes) ids) where
  abbrev s : Rows
  s = with_fields r changes

  of_tx : (rows : Rows) (q : Text) (x : TxRow) (c : Text) → is_among text_cmp ids q ≡ true → map.get rows.txs q ≡ Some x → category_of rows x ≡ Some c → is_among text_cmp (flat_map (category_at rows) ids) c ≡ true
  of_tx rows q x c inside found named = among_flat (category_at rows) ids q c inside (ap (λ o. is_among text_cmp (listed (and_then (category_of rows) o)) c) found ∙ ap (λ o. is_among text_cmp (listed o) c) named ∙ or_left _ false (itself c))

  before_marked : (q : Text) (x : TxRow) (c : Text) → is_among text_cmp ids q ≡ true → map.get r.txs q ≡ Some x → category_of r x ≡ Some c → is_among text_cmp m.categories c ≡ true
  before_marked q x c inside found named = f.categories c ∙ or_right (is_among text_cmp (flat_map (category_at s) ids) c) _ (or_left _ (is_among text_cmp (flat_map (categories_by r) changes) c) (of_tx r q x c inside found named))

  after_marked : (q : Text) (x : TxRow) (c : Text) → is_among text_cmp ids q ≡ true → map.get s.txs q ≡ Some x → category_of s x ≡ Some c → is_among text_cmp m.categories c ≡ true
  after_marked q x c inside found named = f.categories c ∙ or_left _ _ (of_tx s q x c inside found named)

  off_changes : (c : Text) → is_among text_cmp m.categories c ≡ false → AllByRecursion (λ x. is_among text_cmp (categories_by r x) c ≡ false) changes
  off_changes c off = none_of (categories_by r) changes c (third (is_among text_cmp (flat_map (category_at s) ids) c) (is_among text_cmp (flat_map (category_at r) ids) c) _ (sym (f.categories c) ∙ off))

  off_groups : (g : Text) → is_among text_cmp m.groups g ≡ false → AllByRecursion (λ x. is_among text_cmp (groups_by r x) g ≡ false) changes
  off_groups g off = none_of (groups_by r) changes g (second (is_among text_cmp (flat_map (group_at s) m.categories) g) _ (sym (f.groups g) ∙ off))

  -- a marked category is of no group without a mark
  new_theirs : (g c : Text) → is_among text_cmp m.groups g ≡ false → is_among text_cmp m.categories c ≡ true → (b : Bool) → some_and (λ (row : CategoryRow). is_text g row.cat_group) (map.get s.categories c) ≡ b → b ≡ false
  new_theirs g c off inside true e = absurd (true≢false (sym (f.groups g ∙ or_left _ _ (among_flat (group_at s) m.categories c g inside (named_at s c g (map.get s.categories c) e))) ∙ off))
  new_theirs g c off inside false e = refl

  -- nor was it
  unset_then : (g c : Text) → some_and (λ (row : CategoryRow). is_text g row.cat_group) (map.get r.categories c) ≡ true → (x : Change) → is_among text_cmp (groups_by r x) g ≡ false → IsOff Categories c x
  unset_then g c named x h e = by (eq_by_cmp text_cmp c x.0.row) refl
    where
      by : (b : Bool) → eq_by_cmp text_cmp c x.0.row ≡ b → b ≡ false
      by true k = absurd (true≢false (sym (
          ap (λ d. is_among text_cmp (groups_in r d x.0.row) g) e
          ∙ ap (λ i. is_among text_cmp (group_at r i) g) (sym (same_texts c x.0.row k))
          ∙ named_at r c g (map.get r.categories c) named) ∙ h))
      by false k = refl

  old_theirs : (g c : Text) → is_among text_cmp m.groups g ≡ false → is_among text_cmp m.categories c ≡ true → (b : Bool) → some_and (λ (row : CategoryRow). is_text g row.cat_group) (map.get r.categories c) ≡ b → b ≡ false
  old_theirs g c off inside true e =
      sym e ∙ ap (some_and (λ (row : CategoryRow). is_text g row.cat_group)) (categories_stay c r changes (all_map _ (IsOff Categories c) changes (unset_then g c e) (off_groups g off)))
      ∙ new_theirs g c off inside (some_and (λ (row : CategoryRow). is_text g row.cat_group) (map.get s.categories c)) refl
  old_theirs g c off inside false e = refl

  pub marks_follow : Marks r s m.categories m.groups
  marks_follow = record {
    sums = λ c month off. unmarked_sums_stay r s ids m.categories 0 spares (record { category = before_marked; month = λ q x k inside found l e. absurd (omega (arith, l)) }) (record { category = after_marked; month = λ q x k inside found l e. absurd (omega (arith, l)) }) c month off;
    budgets = λ c month off. budgets_stay (budget_id c month) r changes (all_map _ (IsOff ZeroBudgets (budget_id c month)) changes (λ x h. budget_off r x c month h) (off_changes c off));
    categories = λ c off. categories_stay c r changes (all_map _ (IsOff Categories c) changes (λ x h. category_off r x c h) (off_changes c off));
    owners = λ c row g off found named. groups_stay g r changes (all_map _ (IsOff CategoryGroups g) changes (λ x h. owner_off r x c g row found named h) (off_changes c off));
    groups = λ g off. groups_stay g r changes (all_map _ (IsOff CategoryGroups g) changes (λ x h. group_off r x g h) (off_groups g off));
    theirs = λ g c off inside. (old_theirs g c off inside (some_and (λ (row : CategoryRow). is_text g row.cat_group) (map.get r.categories c)) refl, new_theirs g c off inside (some_and (λ (row : CategoryRow). is_text g row.cat_group) (map.get s.categories c)) refl);
  }

  pub order_follows : m.rearranged ≡ false → groups_of r ≡ groups_of s
  order_follows h = orders_stay r changes (sym f.rearranged ∙ h)

  -- ---- months before the first that is touched
  abbrev by_changes : ℕ
  by_changes = earliest 2760 (list_map month_by changes)

  abbrev by_old : ℕ
  by_old = earliest by_changes (list_map (month_at_tx r) ids)

  abbrev by_all : ℕ
  by_all = earliest by_old (list_map (month_at_tx s) ids)

  module _ (n : ℕ) (is : n ≡ by_all) where
    to_old : n ≤ by_old
    to_old = omega (arith, is, earliest_low by_old (list_map (month_at_tx s) ids))

    to_changes : n ≤ by_changes
    to_changes = omega (arith, to_old, earliest_low by_changes (list_map (month_at_tx r) ids))

    n_within : n ≤ 2760
    n_within = omega (arith, to_changes, earliest_low 2760 (list_map month_by changes))

    no_change : AllByRecursion (IsNotBefore month_by n) changes
    no_change = all_map (IsNotBefore month_by by_changes) (IsNotBefore month_by n) changes (λ x h k e. chained n by_changes (number_of k) to_changes (h k e)) (earliest_all month_by 2760 changes)

    no_old : (q : Text) → is_among text_cmp ids q ≡ true → IsNotBefore (month_at_tx r) n q
    no_old q inside = λ k e. chained n by_old (number_of k) to_old (all_among (IsNotBefore (month_at_tx r) by_old) ids q (earliest_all (month_at_tx r) by_changes ids) inside k e)

    no_new : (q : Text) → is_among text_cmp ids q ≡ true → IsNotBefore (month_at_tx s) n q
    no_new q inside = λ k e. chained n by_all (number_of k) (omega (arith, is)) (all_among (IsNotBefore (month_at_tx s) by_all) ids q (earliest_all (month_at_tx s) by_old ids) inside k e)

    same_before : is_rearranged changes ≡ false → SameBefore (budget_of r) (budget_of s) n
    same_before h = record {
      groups = orders_stay r changes h;
      sums = λ c k l. earlier_sums_stay r s ids m.categories n spares
          (record { category = before_marked; month = λ q x k inside found l e. not_first n k n_within l ⊥ (no_old q inside (month_at k) (ap month_of_tx found ∙ e)) })
          (record { category = after_marked; month = λ q x k inside found l e. not_first n k n_within l ⊥ (no_new q inside (month_at k) (ap month_of_tx found ∙ e)) }) c k l;
      budgeted = λ c k l. ap (value_or_zero (λ (b : BudgetRow). b.amount)) (budgets_stay (budget_id c (month_at k)) r changes (all_map _ (IsOff ZeroBudgets (budget_id c (month_at k))) changes (λ x h. budget_before n k n_within l c x h) no_change));
      carries = λ c k l. ap (some_and (λ (b : BudgetRow). b.carryover)) (budgets_stay (budget_id c (month_at k)) r changes (all_map _ (IsOff ZeroBudgets (budget_id c (month_at k))) changes (λ x h. budget_before n k n_within l c x h) no_change));
      buffered = λ k l. ap (value_or_zero (λ (b : MonthRow). b.buffered)) (months_stay (month_id (month_at k)) r changes (all_map _ (IsOff ZeroBudgetMonths (month_id (month_at k))) changes (λ x h. month_before n k n_within l x h) no_change));
    }

  pub before_follows : (k : ℕ) → k < m.from → SameBefore (budget_of r) (budget_of s) m.from
  before_follows k l = by (is_rearranged changes) refl
    where
      by : (b : Bool) → is_rearranged changes ≡ b → SameBefore (budget_of r) (budget_of s) m.from
      by true e =
          let zero : m.from ≡ 0 = f.from ∙ ap (λ (b : Bool). if b then 0 else by_all) e in
          absurd (omega (arith, l, zero))
      by false e = same_before m.from (f.from ∙ ap (λ (b : Bool). if b then 0 else by_all) e) e

-- what the rows of the changes mark, and then what their transactions mark before the changes and after them, is all that is marked
module _ (r s : Rows) (changes : List Change) (ids : List Text) (b a : Begun) (m : Marked) where
  pub is_followed : s ≡ with_fields r changes
      → ((q : Text) → set.contains text_cmp b.categories q ≡ is_among text_cmp (flat_map (categories_by r) changes) q)
      → ((q : Text) → set.contains text_cmp a.groups q ≡ is_among text_cmp (flat_map (groups_by r) changes) q)
      → b.first ≡ earliest 2760 (list_map month_by changes)
      → a.rearranged ≡ is_rearranged changes
      → ((q : Text) → set.contains text_cmp a.categories q ≡ (is_among text_cmp (flat_map (category_at s) ids) q || (is_among text_cmp (flat_map (category_at r) ids) q || set.contains text_cmp b.categories q)))
      → a.first ≡ earliest (earliest b.first (list_map (month_at_tx r) ids)) (list_map (month_at_tx s) ids)
      → ((q : Text) → is_among text_cmp m.categories q ≡ set.contains text_cmp a.categories q)
      → ((q : Text) → is_among text_cmp m.groups q ≡ (is_among text_cmp (flat_map (group_at s) m.categories) q || set.contains text_cmp a.groups q))
      → m.from ≡ (if a.rearranged then 0 else a.first) → m.rearranged ≡ a.rearranged
      → IsFollowed r (with_fields r changes) changes ids m
  is_followed e bc bg bf br ac af mc mg mf mr = subst (λ z. IsFollowed r z changes ids m) e (record {
    categories = λ q. mc q ∙ ac q ∙ ap (λ o. is_among text_cmp (flat_map (category_at s) ids) q || (is_among text_cmp (flat_map (category_at r) ids) q || o)) (bc q);
    groups = λ q. mg q ∙ ap (λ o. is_among text_cmp (flat_map (group_at s) m.categories) q || o) (bg q);
    rearranged = mr ∙ br;
    from = mf ∙ ap (λ n. if a.rearranged then 0 else n) af ∙ ap (λ n. if a.rearranged then 0 else earliest (earliest n (list_map (month_at_tx r) ids)) (list_map (month_at_tx s) ids)) bf
        ∙ ap (λ (u : Bool). if u then 0 else earliest (earliest (earliest 2760 (list_map month_by changes)) (list_map (month_at_tx r) ids)) (list_map (month_at_tx s) ids)) br;
  })
