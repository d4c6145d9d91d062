-- How the months of a sheet are numbered, and what its cells add up.
use Rattle.std.specs.Prelude.{ℕ, ◌≡◌, ◌≢◌, ◌↔◌, ◌+◌, ◌*◌, ◌/◌, ◌%◌, true, false, pos, ◌+ℤ◌, ℤ, List, [], None, Some, unwrap_or}
use Rattle.std.specs.FinMap.{get}
use Rattle.finite_sums.specs.Sums.{total}
use Rattle.finite_sums.specs.Maps.{Text, text_cmp, value_or_zero, is_among, AreDistinct}
use Rattle.envelope_cells.specs.Budget.{Budget, expense_groups, categories, expense}
use Rattle.envelope_cells.specs.Cells.{total_income, from_last_month, available_funds, last_month_overspent, total_budgeted, to_budget, total_spent, total_leftover, leftover}
use Rattle.envelope_cells.specs.CellOf.{cell_of, group_named}
use Rattle.envelope_cells.specs.Ids.{month_number, month_at}
use Rattle.envelope_cells.specs.declared.name.CellName.{CellName}
use Rattle.envelope_cells.specs.declared.name.CellKind.{CellKind}
use Rattle.envelope_cells.specs.declared.name.CellKind.TheVariants.{TotalIncome, FromLastMonth, AvailableFunds, LastMonthOverspent, TotalBudgeted, Buffered, ToBudget, TotalSpent, TotalLeftover, GroupSum, GroupBudget, GroupLeftover, Sum, Budget as OfBudget, Carryover, Leftover}
use Rattle.book_rows.specs.declared.rows.Rows.{Rows}
use Rattle.book_rows.specs.declared.rows.TxRow.{TxRow}
use Rattle.book_rows.specs.Live.{is_counted, category_of}
use Rattle.book_rows.specs.Months.{is_month, month_of_row}
use Rattle.envelope_cells.specs.BudgetOf.{budget_of}

-- how months are numbered
pub record MonthsAreNumbered : Type 0 where
  pub first : month_at 0 ≡ 197_001
  -- a month is followed by the next one of its year, and December by January of the next year
  pub next : (m : ℕ) → month_at m % 100 ≢ 12 → month_at (m + 1) ≡ month_at m + 1
  pub december : (m : ℕ) → month_at m % 100 ≡ 12 → month_at (m + 1) ≡ (month_at m / 100 + 1) * 100 + 1
  pub number : (m : ℕ) → month_number (month_at m) ≡ m
  pub month : (month : ℕ) → is_month month ≡ true → month_at (month_number month) ≡ month

-- a transaction counts in a category, to which the one in its column resolves, and in a month YYYYMM
pub record CountsIn (rows : Rows) (c : Text) (month : ℕ) (x : TxRow) : Type 0 where
  pub counts : is_counted rows x ≡ true
  pub category : category_of rows x ≡ Some c
  pub dated : month_of_row x ≡ Some month

-- these are the transactions that count in a category and in a month, each once
pub record AreThoseOf (rows : Rows) (c : Text) (month : ℕ) (ids : List Text) : Type 0 where
  pub once : AreDistinct text_cmp ids
  pub those : (id : Text) → (is_among text_cmp ids id ≡ true) ↔ ((x : TxRow) × (get rows.txs id ≡ Some x) × CountsIn rows c month x)

-- the sum of a category in a month is that of the amounts of the transactions that count there
abbrev pub SumsAreOfTransactions : Type 0
SumsAreOfTransactions = (rows : Rows) (c : Text) (m : ℕ) → (ids : List Text) × AreThoseOf rows c (month_at m) ids
    × ((budget_of rows).category_sum c m ≡ total (λ id. value_or_zero (λ (x : TxRow). x.amount) (get rows.txs id)) ids)

-- what a cell of this kind and id tells in a month YYYYMM, or 0
abbrev pub told : Budget → ℕ → CellKind → Text → ℤ
told b month kind id = unwrap_or (cell_of b (record { month = month; kind = kind; id = id })) (pos 0)

-- what the cells of the whole month tell in a month YYYYMM, which has number m: each of them what its name says
pub record MonthIsTold (b : Budget) (month m : ℕ) : Type 0 where
  -- what came in, what the month before left to budget and held back, and both of these
  pub income : told b month TotalIncome [] ≡ total_income b m
  pub from_last : told b month FromLastMonth [] ≡ from_last_month b m
  pub available : told b month AvailableFunds [] ≡ available_funds b m
  -- what overspent categories of expenses take from the month, and what all of them are given, as it goes out
  pub overspent : told b month LastMonthOverspent [] ≡ last_month_overspent b m
  pub budgeted : told b month TotalBudgeted [] ≡ total_budgeted b m
  -- what is held back for the next month, and what is still to budget
  pub held : told b month Buffered [] ≡ b.buffered m
  pub to_budget : told b month ToBudget [] ≡ to_budget b m
  -- what went out, and what is left in all categories of expenses
  pub spent : told b month TotalSpent [] ≡ total_spent b m
  pub left : told b month TotalLeftover [] ≡ total_leftover b m

-- the cell of a kind and an id in a month
abbrev pub at : ℕ → CellKind → Text → CellName
at month kind id = record { month = month; kind = kind; id = id }

-- what the cells of a category tell in a month YYYYMM, which has number m: each of them what its name says
pub record CategoryIsTold (b : Budget) (month m : ℕ) (c : Text) : Type 0 where
  -- of each live category, what its transactions add up to
  pub moved : is_among text_cmp (categories b) c ≡ true → cell_of b (at month Sum c) ≡ Some (b.category_sum c m)
  -- of one of expenses, what it is given, whether it carries over, as 1 or 0, and what is left in it
  pub given : is_among text_cmp (expense b) c ≡ true → cell_of b (at month OfBudget c) ≡ Some (b.budgeted c m)
  pub carries : is_among text_cmp (expense b) c ≡ true → b.carries c m ≡ true → cell_of b (at month Carryover c) ≡ Some (pos 1)
  pub drops : is_among text_cmp (expense b) c ≡ true → b.carries c m ≡ false → cell_of b (at month Carryover c) ≡ Some (pos 0)
  pub left : is_among text_cmp (expense b) c ≡ true → cell_of b (at month Leftover c) ≡ Some (leftover b c m)
  -- one of income has none of these three
  pub none_given : is_among text_cmp (expense b) c ≡ false → cell_of b (at month OfBudget c) ≡ None
  pub none_carries : is_among text_cmp (expense b) c ≡ false → cell_of b (at month Carryover c) ≡ None
  pub none_left : is_among text_cmp (expense b) c ≡ false → cell_of b (at month Leftover c) ≡ None

-- how the cells of groups and of the whole month add up
pub record CellsAddUp (b : Budget) : Type 0 where
  -- what came in and what went out is all that was moved in live categories
  pub moved : (m : ℕ) → total_income b m +ℤ total_spent b m ≡ total (λ c. b.category_sum c m) (categories b)
  -- the cells of the whole month tell what their names say
  pub whole : (month : ℕ) → MonthIsTold b month (month_number month)
  -- and so do those of a category
  pub category : (month : ℕ) (c : Text) → CategoryIsTold b month (month_number month) c
  -- the cells of a group add up those of its categories
  pub sum : (month : ℕ) (g : _) → group_named b.groups g.id ≡ Some g → told b month GroupSum g.id ≡ total (told b month Sum) g.categories
  pub budget : (month : ℕ) (g : _) → group_named (expense_groups b) g.id ≡ Some g → told b month GroupBudget g.id ≡ total (told b month OfBudget) g.categories
  pub left : (month : ℕ) (g : _) → group_named (expense_groups b) g.id ≡ Some g → told b month GroupLeftover g.id ≡ total (told b month Leftover) g.categories
