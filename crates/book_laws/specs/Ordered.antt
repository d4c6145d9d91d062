-- In which order groups, categories and cells stand on a sheet.
use Rattle.std.specs.Prelude.{ℕ, ◌≡◌, ◌↔◌, ◌++◌, ℤ, Bool, true, false, List, [], ◌∷◌, map, flat_map, Some, if◌then◌else◌, codes}
use Rattle.std.specs.List.{AllByRecursion}
use Rattle.std.specs.Fmt.{signed_decimal}
use Rattle.std.specs.List.Sorted.{IsStrictlySortedBy}
use Rattle.std.specs.declared.cmp.Ordering.{Ordering}
use Rattle.std.specs.Ordering.{int_cmp, ordering_then}
use Rattle.std.specs.FinMap.{get}
use Rattle.finite_sums.specs.Maps.{Text, Texts, text_cmp, is_among, value_or_zero}
use Rattle.book_rows.specs.declared.rows.Rows.{Rows}
use Rattle.book_rows.specs.declared.rows.GroupRow.{GroupRow}
use Rattle.book_rows.specs.declared.rows.CategoryRow.{CategoryRow}
use Rattle.envelope_cells.specs.declared.name.Cell.{Cell}
use Rattle.envelope_cells.specs.declared.name.CellName.{CellName}
use Rattle.envelope_cells.specs.declared.name.CellKind.{CellKind}
use Rattle.envelope_cells.specs.declared.name.CellKind.TheVariants.{TotalIncome, FromLastMonth, AvailableFunds, LastMonthOverspent, TotalBudgeted, Buffered, ToBudget, TotalSpent, TotalLeftover, GroupSum, GroupBudget, GroupLeftover, Sum, Budget as OfBudget, Carryover, Leftover}
use Rattle.envelope_cells.specs.BudgetOf.{budget_of, groups_of}
use Rattle.envelope_cells.specs.SheetOf.{sheet_of}
use Rattle.envelope_cells.specs.Text.{kind_text, cell_line, sheet_text}

-- of two rows the one with the lesser number stands first, and of two with one number the one whose id is less, byte by byte
abbrev pub row_cmp : {X : Type 0} → (X → ℤ) → Texts X → Text → Text → Ordering
row_cmp number rows p q = ordering_then (int_cmp (value_or_zero number (get rows p)) (value_or_zero number (get rows q))) (text_cmp p q)

-- a category that was not deleted and names its group
pub record IsCategoryOf (rows : Rows) (group category : Text) : Type 0 where
  -- it has a row
  pub row : CategoryRow
  pub there : get rows.categories category ≡ Some row
  -- which was not deleted
  pub kept : row.tombstone ≡ false
  -- and names the group
  pub names : row.cat_group ≡ Some group

-- a group as a sheet has it
pub record IsGroupOf (rows : Rows) (id : Text) (is_income : Bool) (categories : List Text) : Type 0 where
  -- it has a row
  pub row : GroupRow
  pub there : get rows.groups id ≡ Some row
  -- which was not deleted
  pub kept : row.tombstone ≡ false
  -- it takes income where its row says so
  pub side : is_income ≡ row.is_income
  -- its categories are all that name it and were not deleted
  pub own : (c : Text) → (is_among text_cmp categories c ≡ true) ↔ IsCategoryOf rows id c
  -- they stand by their numbers and then by their ids
  pub in_order : IsStrictlySortedBy (row_cmp (λ c. c.sort_order) rows.categories) categories

-- the names of the cells of a month that are of these kinds and of one id
abbrev pub names_of : ℕ → Text → List CellKind → List CellName
names_of month id kinds = map (λ kind. record { month = month; kind = kind; id = id }) kinds

-- which cells a whole month has, a group, and a category
abbrev pub month_kinds : List CellKind
month_kinds =
    TotalIncome ∷ FromLastMonth ∷ AvailableFunds ∷ LastMonthOverspent ∷ TotalBudgeted ∷ Buffered ∷ ToBudget ∷ TotalSpent ∷ TotalLeftover
    ∷ []

abbrev pub group_kinds : Bool → List CellKind
group_kinds is_income = if is_income then GroupSum ∷ [] else GroupSum ∷ GroupBudget ∷ GroupLeftover ∷ []

abbrev pub category_kinds : Bool → List CellKind
category_kinds is_income = if is_income then Sum ∷ [] else Sum ∷ OfBudget ∷ Carryover ∷ Leftover ∷ []

-- the cells of a group stand first, and behind them those of its categories
abbrev pub group_names : ℕ → Text → Bool → List Text → List CellName
group_names month id is_income categories =
    names_of month id (group_kinds is_income) ++ flat_map (λ c. names_of month c (category_kinds is_income)) categories

-- the names of the cells of a whole month, of a group, and of a category
abbrev pub whole_names : List Text
whole_names =
    codes "total-income" ∷ codes "from-last-month" ∷ codes "available-funds" ∷ codes "last-month-overspent" ∷ codes "total-budgeted"
    ∷ codes "buffered" ∷ codes "to-budget" ∷ codes "total-spent" ∷ codes "total-leftover" ∷ []

abbrev pub names_of_groups : List Text
names_of_groups = codes "group-sum-amount-" ∷ codes "group-budget-" ∷ codes "group-leftover-" ∷ []

abbrev pub names_of_categories : List Text
names_of_categories = codes "sum-amount-" ∷ codes "budget-" ∷ codes "carryover-" ∷ codes "leftover-" ∷ []

-- how a sheet is laid out
pub record SheetsAreInOrder (rows : Rows) : Type 0 where
  -- groups stand by their numbers and then by their ids, whether they take income or not
  pub groups : IsStrictlySortedBy (row_cmp (λ g. g.sort_order) rows.groups) (map (λ g. g.id) (groups_of rows))
  -- each of them was not deleted, and has its own categories, in order
  pub group : AllByRecursion (λ g. IsGroupOf rows g.id g.is_income g.categories) (groups_of rows)
  -- the cells of the whole month stand first, and then those of one group after the other
  pub cells : (month : ℕ)
      → map (λ c. c.name) (sheet_of (budget_of rows) month)
      ≡ names_of month [] month_kinds ++ flat_map (λ g. group_names month g.id g.is_income g.categories) (groups_of rows)
  -- each line of its text has the name of the kind, the id behind it, a blank and the number
  pub line : (c : Cell) → cell_line c ≡ kind_text c.name.kind ++ c.name.id ++ codes " " ++ signed_decimal c.value ++ (10 ∷ [])
  -- and these are the names of the kinds
  pub month_names : map kind_text month_kinds ≡ whole_names
  pub group_names : map kind_text (group_kinds false) ≡ names_of_groups
  pub category_names : map kind_text (category_kinds false) ≡ names_of_categories
  -- the lines stand as the cells do
  pub lines : (month : ℕ) → sheet_text (sheet_of (budget_of rows) month) ≡ flat_map cell_line (sheet_of (budget_of rows) month)
