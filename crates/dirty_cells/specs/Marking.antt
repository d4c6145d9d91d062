-- Which categories, groups and months are marked: those of whose cells changes may change one.
use Rattle.std.specs.Prelude.{◌≡◌, ℕ, Bool, true, false, ◌||◌, ◌==◌, nat_lt, min, List, [], ◌∷◌, flat_map, map as list_map, length, drop, slice_index, Option, Some, None, is_some, if◌then◌else◌}
use Rattle.std.specs.List.{list_any}
use Rattle.std.specs.FinMap as map
use Rattle.finite_sums.specs.Maps.{Text, text_cmp, is_among, keys_where}
use Rattle.book_rows.specs.declared.rows.Rows.{Rows}
use Rattle.book_rows.specs.declared.rows.CategoryRow.{CategoryRow}
use Rattle.book_rows.specs.declared.column.Dataset.{Dataset}
use Rattle.book_rows.specs.declared.column.Dataset.TheVariants.{CategoryGroups, Categories, ZeroBudgets, ZeroBudgetMonths}
use Rattle.book_rows.specs.declared.column.Column.{Column}
use Rattle.book_rows.specs.Columns.{dataset_of, column_of}
use Rattle.book_rows.specs.Rows.{dataset_kind}
use Rattle.book_rows.specs.Live.{category_of}
use Rattle.book_rows.specs.Parts.{is_text}
use Rattle.book_rows.specs.Months.{is_month, month_of_tx, budget_month, month_row_month}
use Rattle.envelope_cells.specs.Ids.{month_number}
use Rattle.dirty_cells.specs.Changes.{Change}
use Rattle.dirty_cells.specs.declared.marks.Marked.{Marked}

-- ---- which row a change sets

-- the dataset, where a book knows it and it has the column
abbrev pub dataset_with : Option Dataset → Option Column → Option Dataset
dataset_with None column = None
dataset_with (Some dataset) None = None
dataset_with (Some dataset) (Some column) = if is_some (dataset_kind dataset column) then Some dataset else None

-- the dataset in which a change sets a row, if a book knows the field
abbrev pub set_in : Change → Option Dataset
set_in c = dataset_with (dataset_of c.0.dataset) (column_of c.0.column)

-- ---- what a row speaks of

-- what is there, as a list
abbrev pub listed : {A : Type 0} → Option A → List A
listed None = []
listed (Some x) = x ∷ []

abbrev pub and_then : {A B : Type 0} → (A → Option B) → Option A → Option B
and_then f None = None
and_then f (Some x) = f x

-- the category of a transaction
abbrev pub category_at : Rows → Text → List Text
category_at rows id = listed (and_then (category_of rows) (map.get rows.txs id))

-- the category in the id of a budget row: what stands behind six bytes and `-`
unfoldable pub budget_category : Text → Option Text
budget_category id = if nat_lt (length id) 7 then None else (if slice_index id 6 == 45 then Some (drop 7 id) else None)

-- the category's row names the group
abbrev pub is_in_group : Text → CategoryRow → Bool
is_in_group g row = is_text g row.cat_group

-- the categories that name a group, live or not
abbrev pub members : Rows → Text → List Text
members rows g = keys_where (is_in_group g) (map.entries rows.categories)

-- the group that a category names
abbrev pub group_at : Rows → Text → List Text
group_at rows id = listed (and_then (λ (row : CategoryRow). row.cat_group) (map.get rows.categories id))

-- ---- what a changed row marks

-- the categories: that of a category's own row or of a budget row, and those of a group
abbrev pub categories_in : Rows → Option Dataset → Text → List Text
categories_in r None id = []
categories_in r (Some Categories) id = id ∷ []
categories_in r (Some CategoryGroups) id = members r id
categories_in r (Some ZeroBudgets) id = listed (budget_category id)
categories_in r (Some other) id = []

-- the groups: the one of which a category was, and a group itself
abbrev pub groups_in : Rows → Option Dataset → Text → List Text
groups_in r None id = []
groups_in r (Some Categories) id = group_at r id
groups_in r (Some CategoryGroups) id = id ∷ []
groups_in r (Some other) id = []

-- the month YYYYMM of a budget row or a month row
abbrev pub month_in : Option Dataset → Text → Option ℕ
month_in None id = None
month_in (Some ZeroBudgets) id = budget_month id
month_in (Some ZeroBudgetMonths) id = month_row_month id
month_in (Some other) id = None

-- whether it is a category's or a group's row, on which the cells of all months rest
abbrev pub is_order : Option Dataset → Bool
is_order None = false
is_order (Some Categories) = true
is_order (Some CategoryGroups) = true
is_order (Some other) = false

-- ---- of a change, of changes and of transactions

abbrev pub categories_by : Rows → Change → List Text
categories_by r c = categories_in r (set_in c) c.0.row

abbrev pub groups_by : Rows → Change → List Text
groups_by r c = groups_in r (set_in c) c.0.row

abbrev pub month_by : Change → Option ℕ
month_by c = month_in (set_in c) c.0.row

-- some change is one of a category's or a group's row
abbrev pub is_rearranged : List Change → Bool
is_rearranged cs = list_any (λ c. is_order (set_in c)) cs

abbrev pub month_at_tx : Rows → Text → Option ℕ
month_at_tx rows id = month_of_tx (map.get rows.txs id)

-- the number of a month, or 0 where the number writes no month
abbrev pub number_of : ℕ → ℕ
number_of month = if is_month month then month_number month else 0

-- the less of a number and that of a month, if there is one
abbrev pub earlier : ℕ → Option ℕ → ℕ
earlier n None = n
earlier n (Some month) = min n (number_of month)

-- the least of a number and those of some months
abbrev pub earliest : ℕ → List (Option ℕ) → ℕ
earliest n [] = n
earliest n (m ∷ ms) = earliest (earlier n m) ms

-- ---- all that is marked: by the rows before the changes, r, and after them, s, where the changes touch these transactions
pub record IsFollowed (r s : Rows) (changes : List Change) (ids : List Text) (m : Marked) : Type 0 where
  pub categories : (q : Text) → is_among text_cmp m.categories q ≡ (is_among text_cmp (flat_map (category_at s) ids) q || (is_among text_cmp (flat_map (category_at r) ids) q || is_among text_cmp (flat_map (categories_by r) changes) q))
  pub groups : (q : Text) → is_among text_cmp m.groups q ≡ (is_among text_cmp (flat_map (group_at s) m.categories) q || is_among text_cmp (flat_map (groups_by r) changes) q)
  pub rearranged : m.rearranged ≡ is_rearranged changes
  pub from : m.from ≡ (if is_rearranged changes then 0 else earliest (earliest (earliest 2760 (list_map month_by changes)) (list_map (month_at_tx r) ids)) (list_map (month_at_tx s) ids))
