-- How much changes touch, which bounds the steps of applying them: what was there before the changes, r, and what is there after them, s.
use Rattle.std.specs.Prelude.{ℕ, ◌+◌, ◌-◌, ◌*◌, Bool, true, false, ◌||◌, not, List, [], ◌++◌, map, filter, flat_map, length, max, Option, if◌then◌else◌}
use Rattle.std.specs.FinMap.{get, entries}
use Rattle.finite_sums.specs.Sums.{weight}
use Rattle.finite_sums.specs.Maps.{Text, Texts, some_and}
use Rattle.book_rows.specs.declared.rows.Rows.{Rows}
use Rattle.book_rows.specs.declared.rows.TxRow.{TxRow}
use Rattle.book_rows.specs.declared.rows.AccountRow.{AccountRow}
use Rattle.book_rows.specs.declared.rows.CategoryMappingRow.{CategoryMappingRow}
use Rattle.book_rows.specs.declared.column.Dataset.{Dataset}
use Rattle.book_rows.specs.declared.column.Dataset.TheVariants.{Accounts, CategoryGroups, Categories, Transactions, ZeroBudgets, ZeroBudgetMonths, CategoryMapping}
use Rattle.book_rows.specs.Parts.{is_child_of, is_in_account, is_in_category}
use Rattle.book_rows.specs.Months.{budget_month, month_row_month}
use Rattle.dirty_cells.specs.Changes.{Change, differ, same_text}
use Rattle.dirty_cells.specs.Governing.{distinct}
use Rattle.dirty_cells.specs.Marking.{set_in, listed, category_at, budget_category, members, group_at, month_at_tx, earliest, is_rearranged}
use Rattle.dirty_cells.specs.Steps.{month_cost}

-- how many different texts a list has
abbrev pub different : List Text → ℕ
different xs = length (distinct xs)

-- ---- which rows change
-- the dataset is the one of these that is asked for
abbrev pub same_dataset : Dataset → Dataset → Bool
same_dataset Accounts Accounts = true
same_dataset CategoryGroups CategoryGroups = true
same_dataset Categories Categories = true
same_dataset Transactions Transactions = true
same_dataset ZeroBudgets ZeroBudgets = true
same_dataset ZeroBudgetMonths ZeroBudgetMonths = true
same_dataset CategoryMapping CategoryMapping = true
same_dataset a b = false

-- the ids of the rows of a dataset that change, each once
abbrev pub changed : Dataset → List Change → List Text
changed d cs = distinct (map (λ c. c.0.row) (filter (λ c. some_and (same_dataset d) (set_in c)) cs))

-- ---- which transactions those rows govern
-- the row is new, or not the same in what governs
abbrev pub turns : {Row : Type 0} → (Row → Row → Bool) → Texts Row → Texts Row → Text → Bool
turns same old new id = some_and (λ y. not (some_and (λ x. same x y) (get old id))) (get new id)

-- the transactions that pass a test before or after
abbrev pub before_or_after : (TxRow → Bool) → Rows → Rows → List Text
before_or_after p r s = map (λ e. e.0) (filter (λ e. p e.1 || some_and p (get r.txs e.0)) (entries s.txs))

-- an accounts row governs the transactions of the account, where it is new, or comes into the budget or leaves it
abbrev pub of_account : Rows → Rows → Text → List Text
of_account r s id = if turns (λ (x y : AccountRow). not (differ x.offbudget y.offbudget)) r.accounts s.accounts id then before_or_after (is_in_account id) r s else []

-- a transactions row governs its parts, where it is new, or is deleted or restored
abbrev pub of_parent : Rows → Rows → Text → List Text
of_parent r s id = if turns (λ (x y : TxRow). not (differ x.tombstone y.tombstone)) r.txs s.txs id then before_or_after (is_child_of id) r s else []

-- a mapping's row governs the transactions whose category column is its id, where it is new or has another target
abbrev pub of_mapping : Rows → Rows → Text → List Text
of_mapping r s id = if turns (λ (x y : CategoryMappingRow). same_text x.transfer_id y.transfer_id) r.category_mappings s.category_mappings id then before_or_after (is_in_category id) r s else []

-- the pairs of a changed row and a transaction that it governs
abbrev pub pairs : Rows → Rows → List Change → ℕ
pairs r s cs =
    weight (λ id. length (of_account r s id)) (changed Accounts cs)
    + weight (λ id. length (of_parent r s id)) (changed Transactions cs)
    + weight (λ id. length (of_mapping r s id)) (changed CategoryMapping cs)

-- the transactions that change or are governed
abbrev pub touched_txs : Rows → Rows → List Change → List Text
touched_txs r s cs =
    changed Transactions cs ++ flat_map (of_account r s) (changed Accounts cs) ++ flat_map (of_parent r s) (changed Transactions cs)
    ++ flat_map (of_mapping r s) (changed CategoryMapping cs)

-- ---- which categories and groups are computed anew
abbrev pub touched_categories : Rows → Rows → List Change → List Text
touched_categories r s cs =
    flat_map (λ id. category_at r id ++ category_at s id) (touched_txs r s cs)
    ++ flat_map (λ id. listed (budget_category id)) (changed ZeroBudgets cs)
    ++ changed Categories cs
    ++ flat_map (λ g. members r g ++ members s g) (changed CategoryGroups cs)

abbrev pub touched_groups : Rows → Rows → List Change → List Text
touched_groups r s cs = flat_map (λ c. group_at r c ++ group_at s c) (touched_categories r s cs) ++ changed CategoryGroups cs

-- ---- from which month on

-- the months of transactions that change or are governed, before and after, and of budget rows and month rows that change
abbrev pub touched_months : Rows → Rows → List Change → List (Option ℕ)
touched_months r s cs =
    map (month_at_tx r) (touched_txs r s cs) ++ map (month_at_tx s) (touched_txs r s cs) ++ map budget_month (changed ZeroBudgets cs)
    ++ map month_row_month (changed ZeroBudgetMonths cs)

-- the number of the first of them, or 2760 where there is none. Where a category's or a group's row changes all months are touched
abbrev pub first_touched : Rows → Rows → List Change → ℕ
first_touched r s cs = if is_rearranged cs then 0 else earliest 2760 (touched_months r s cs)

-- of the months from number first on, before number end, how many are touched
abbrev pub touched_count : ℕ → ℕ → Rows → Rows → List Change → ℕ
touched_count first end r s cs = end - max first (first_touched r s cs)

-- ---- the bound: of changes before which the months from first on, before end, are covered, and that make w months covered that were not
abbrev pub bound : ℕ → ℕ → Rows → Rows → List Change → ℕ → ℕ
bound first end r s cs w =
    16 * (length cs + pairs r s cs)
    + 2 * (month_cost (different (touched_categories r s cs)) (different (touched_groups r s cs)) * touched_count first end r s cs
    + month_cost (length (entries s.categories)) (length (entries s.groups)) * w)
