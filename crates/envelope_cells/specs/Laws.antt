-- What the laws say.
use Rattle.std.specs.Prelude.{ℕ, ℤ, ◌≡◌, ◌+◌, ◌^◌, ◌≤◌, true, false, pos, ◌+ℤ◌, ◌-ℤ◌, ◌≤ℤ◌, unsigned_abs, map, Some, None}
use Rattle.std.specs.List.{AllByRecursion}
use Rattle.finite_sums.specs.Sums.{total}
use Rattle.finite_sums.specs.Maps.{Text, text_cmp, is_among}
use Rattle.envelope_cells.specs.Budget.{Budget, categories, income, expense}
use Rattle.envelope_cells.specs.Cells.{leftover, taken_from, total_income, from_last_month, available_funds, last_month_overspent, total_budgeted, to_budget, total_leftover, money}
use Rattle.envelope_cells.specs.CellOf.{cell_of, is_of_category}
use Rattle.envelope_cells.specs.SheetOf.{sheet_of, value_named}
use Rattle.envelope_cells.specs.NamesOf.{names_of}
use Rattle.envelope_cells.specs.declared.name.CellName.{CellName}
use Rattle.book_rows.specs.declared.rows.Rows.{Rows}
use Rattle.book_rows.specs.Book.{HasSizes}
use Rattle.book_rows.specs.Months.{is_month}
use Rattle.book_rows.specs.Live.{is_live_group, is_live_category, is_income_category, is_expense_category}
use Rattle.envelope_cells.specs.BudgetOf.{budget_of, groups_of}

-- nothing is lost: what is still to budget, what is held back and what is left in the categories is all that came in and went out in live
-- categories up to then
abbrev pub MoneyIsKept : Type 0
MoneyIsKept = (b : Budget) (m : ℕ) → (to_budget b m +ℤ b.buffered m) +ℤ total_leftover b m ≡ money b m

-- what a leftover is made of
pub record LeftoversAreMade (b : Budget) (c : Text) : Type 0 where
  -- in January 1970 nothing comes from a month before
  pub first : leftover b c 0 ≡ b.budgeted c 0 +ℤ b.category_sum c 0
  -- what is left goes on
  pub left : (m : ℕ) → pos 0 ≤ℤ leftover b c m → leftover b c (m + 1) ≡ (b.budgeted c (m + 1) +ℤ b.category_sum c (m + 1)) +ℤ leftover b c m
  -- what is overspent goes on with the flag, and is gone without it
  pub flagged : (m : ℕ) → b.carries c m ≡ true → leftover b c (m + 1) ≡ (b.budgeted c (m + 1) +ℤ b.category_sum c (m + 1)) +ℤ leftover b c m
  pub overspent : (m : ℕ) → b.carries c m ≡ false → leftover b c m ≤ℤ pos 0 → leftover b c (m + 1) ≡ b.budgeted c (m + 1) +ℤ b.category_sum c (m + 1)

-- what of a leftover is taken from the next month's money: what a category is overspent by without the flag, and nothing else. It goes on in the category, or is taken
pub record OverspendingIsTaken (b : Budget) (c : Text) : Type 0 where
  pub first : taken_from b c 0 ≡ pos 0
  pub left : (m : ℕ) → pos 0 ≤ℤ leftover b c m → taken_from b c (m + 1) ≡ pos 0
  pub flagged : (m : ℕ) → b.carries c m ≡ true → taken_from b c (m + 1) ≡ pos 0
  pub overspent : (m : ℕ) → b.carries c m ≡ false → leftover b c m ≤ℤ pos 0 → taken_from b c (m + 1) ≡ leftover b c m
  pub either : (m : ℕ) → leftover b c (m + 1) +ℤ taken_from b c (m + 1) ≡ (b.budgeted c (m + 1) +ℤ b.category_sum c (m + 1)) +ℤ leftover b c m

-- how the cells of a month are made of each other
pub record MonthsAreMade (b : Budget) : Type 0 where
  pub first : from_last_month b 0 ≡ pos 0
  pub from_last : (m : ℕ) → from_last_month b (m + 1) ≡ to_budget b m +ℤ b.buffered m
  pub available : (m : ℕ) → available_funds b m ≡ total_income b m +ℤ from_last_month b m
  pub overspent : (m : ℕ) → last_month_overspent b m ≡ total (λ c. taken_from b c m) (expense b)
  pub budgeted : (m : ℕ) → total_budgeted b m +ℤ total (λ c. b.budgeted c m) (expense b) ≡ pos 0
  pub to_budget : (m : ℕ) → to_budget b m ≡ ((available_funds b m +ℤ last_month_overspent b m) +ℤ total_budgeted b m) -ℤ b.buffered m

-- two budgets say the same of a category
pub record SayTheSame (a b : Budget) (c : Text) : Type 0 where
  pub category_sum : (m : ℕ) → a.category_sum c m ≡ b.category_sum c m
  pub budgeted : (m : ℕ) → a.budgeted c m ≡ b.budgeted c m
  pub carries : (m : ℕ) → a.carries c m ≡ b.carries c m

-- two budgets have the same live groups and categories, hold back the same, and say the same of each of these categories
pub record AgreeOnLive (a b : Budget) : Type 0 where
  pub groups : a.groups ≡ b.groups
  pub buffered : (m : ℕ) → a.buffered m ≡ b.buffered m
  pub live : (c : Text) → is_among text_cmp (categories b) c ≡ true → SayTheSame a b c

-- a category that is not live counts nowhere: whatever is said of it, each cell of each month is the same, and it has none itself
pub record OthersCountNowhere : Type 0 where
  pub same : (a b : Budget) → AgreeOnLive a b → (name : CellName) → cell_of a name ≡ cell_of b name
  pub none : (b : Budget) (name : CellName) → is_of_category name.kind ≡ true → is_among text_cmp (categories b) name.id ≡ false → cell_of b name ≡ None

-- a name of its month has on a sheet the value that its cell has, the first time that it stands there, and stands on none where it has no cell
abbrev pub SheetsTellCells : Type 0
SheetsTellCells = (b : Budget) (name : CellName) → value_named (sheet_of b name.month) name ≡ cell_of b name

-- the groups and the categories of a book's budget are the live ones, on the side that the group says
pub record LiveOnesAreListed (rows : Rows) : Type 0 where
  pub group : (q : Text) → is_among text_cmp (map (λ g. g.id) (groups_of rows)) q ≡ is_live_group rows q
  pub category : (q : Text) → is_among text_cmp (categories (budget_of rows)) q ≡ is_live_category rows q
  pub income : (q : Text) → is_among text_cmp (income (budget_of rows)) q ≡ is_income_category rows q
  pub expense : (q : Text) → is_among text_cmp (expense (budget_of rows)) q ≡ is_expense_category rows q

-- the sheet of a month has the cells of its names, in this order, each with the value that the cell has
pub record SheetsAreNamed (rows : Rows) (month : ℕ) : Type 0 where
  pub names : map (λ c. c.name) (sheet_of (budget_of rows) month) ≡ names_of (groups_of rows) month
  pub values : AllByRecursion (λ c. cell_of (budget_of rows) c.name ≡ Some c.value) (sheet_of (budget_of rows) month)

-- a cell of a valid month of a book tells less than what 128 bits hold, by far
abbrev pub CellsAreSmall : Rows → Type 0
CellsAreSmall rows = HasSizes rows → (name : CellName) → is_month name.month ≡ true → (z : ℤ) → cell_of (budget_of rows) name ≡ Some z → unsigned_abs z ≤ 2 ^ 121
