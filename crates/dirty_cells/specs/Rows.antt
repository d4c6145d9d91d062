-- The cells of one id, from those of its months.
use Rattle.std.specs.Prelude.{ℕ, ℤ, List, [], ◌∷◌, ◌++◌, map, Option, Some, None, unwrap_or}
use Rattle.std.specs.Ordering.{nat_cmp}
use Rattle.std.specs.FinMap.{empty, get, insert, remove}
use Rattle.std.specs.BTreeMap.{is_at}
use Rattle.std.specs.Map.{lookup}
use Rattle.envelope_cells.specs.declared.name.CellKind.{CellKind}
use Rattle.envelope_cells.specs.declared.name.CellKind.TheVariants.{TotalIncome, FromLastMonth, AvailableFunds, LastMonthOverspent, TotalBudgeted, Buffered, ToBudget, TotalSpent, TotalLeftover, GroupSum, GroupBudget, GroupLeftover, Sum, Budget as OfBudget, Carryover, Leftover}
use Rattle.dirty_cells.specs.Spots.{Spot, spot_at, RowCells}
use Rattle.dirty_cells.specs.declared.row.WholeCells.{WholeCells}
use Rattle.dirty_cells.specs.declared.row.GroupCells.{GroupCells}
use Rattle.dirty_cells.specs.declared.row.CategoryCells.{CategoryCells}

-- the cells of a month, by kind
abbrev pub whole_by : (CellKind → Option ℤ) → WholeCells
whole_by f = record {
  income = f TotalIncome;
  from_last = f FromLastMonth;
  available = f AvailableFunds;
  overspent = f LastMonthOverspent;
  budgeted = f TotalBudgeted;
  buffered = f Buffered;
  to_budget = f ToBudget;
  spent = f TotalSpent;
  leftover = f TotalLeftover;
}

-- those of a group
abbrev pub group_by : (CellKind → Option ℤ) → GroupCells
group_by f = record {
  sum = f GroupSum;
  budget = f GroupBudget;
  leftover = f GroupLeftover;
}

-- and those of a category
abbrev pub category_by : (CellKind → Option ℤ) → CategoryCells
category_by f = record {
  sum = f Sum;
  budget = f OfBudget;
  carryover = f Carryover;
  leftover = f Leftover;
}

-- those that an id has in a month
abbrev pub whole_in : RowCells → ℕ → WholeCells
whole_in cells month = whole_by (λ k. get cells (spot_at month k))

abbrev pub group_in : RowCells → ℕ → GroupCells
group_in cells month = group_by (λ k. get cells (spot_at month k))

abbrev pub category_in : RowCells → ℕ → CategoryCells
category_in cells month = category_by (λ k. get cells (spot_at month k))

-- what a month has of each kind
abbrev pub kind_in : WholeCells → GroupCells → CategoryCells → CellKind → Option ℤ
kind_in w g c TotalIncome = w.income
kind_in w g c FromLastMonth = w.from_last
kind_in w g c AvailableFunds = w.available
kind_in w g c LastMonthOverspent = w.overspent
kind_in w g c TotalBudgeted = w.budgeted
kind_in w g c Buffered = w.buffered
kind_in w g c ToBudget = w.to_budget
kind_in w g c TotalSpent = w.spent
kind_in w g c TotalLeftover = w.leftover
kind_in w g c GroupSum = g.sum
kind_in w g c GroupBudget = g.budget
kind_in w g c GroupLeftover = g.leftover
kind_in w g c Sum = c.sum
kind_in w g c OfBudget = c.budget
kind_in w g c Carryover = c.carryover
kind_in w g c Leftover = c.leftover

-- the cells of a month among those of all months
abbrev pub whole_at : List (ℕ × WholeCells) → ℕ → WholeCells
whole_at es month = unwrap_or (lookup (is_at (nat_cmp month)) es) (whole_by (λ k. None))

abbrev pub group_at : List (ℕ × GroupCells) → ℕ → GroupCells
group_at es month = unwrap_or (lookup (is_at (nat_cmp month)) es) (group_by (λ k. None))

abbrev pub category_at : List (ℕ × CategoryCells) → ℕ → CategoryCells
category_at es month = unwrap_or (lookup (is_at (nat_cmp month)) es) (category_by (λ k. None))

-- what months have at a spot
abbrev pub row_at : List (ℕ × WholeCells) → List (ℕ × GroupCells) → List (ℕ × CategoryCells) → Spot → Option ℤ
row_at ws gs cs s = kind_in (whole_at ws s.month) (group_at gs s.month) (category_at cs s.month) s.kind

-- cells of an id with another value at a spot, or none
abbrev pub set_at : RowCells → Spot → Option ℤ → RowCells
set_at cells s None = remove cells s
set_at cells s (Some z) = insert cells s z

abbrev pub all_kinds : List CellKind
all_kinds = TotalIncome ∷ FromLastMonth ∷ AvailableFunds ∷ LastMonthOverspent ∷ TotalBudgeted ∷ Buffered ∷ ToBudget ∷ TotalSpent ∷ TotalLeftover ∷ GroupSum ∷ GroupBudget ∷ GroupLeftover ∷ Sum ∷ OfBudget ∷ Carryover ∷ Leftover ∷ []

-- cells of an id with the values of some kinds in a month
abbrev pub with_kinds : (Spot → Option ℤ) → ℕ → List CellKind → RowCells → RowCells
with_kinds f month [] cells = cells
with_kinds f month (k ∷ ks) cells = set_at (with_kinds f month ks cells) (spot_at month k) (f (spot_at month k))

-- and of all kinds in some months
abbrev pub of_months : (Spot → Option ℤ) → List ℕ → RowCells
of_months f [] = empty
of_months f (month ∷ months) = with_kinds f month all_kinds (of_months f months)

-- the months that have cells
abbrev pub months_in : {V : Type 0} → List (ℕ × V) → List ℕ
months_in es = map (λ e. e.0) es

-- the cells of one id
abbrev pub row_of : List (ℕ × WholeCells) → List (ℕ × GroupCells) → List (ℕ × CategoryCells) → RowCells
row_of ws gs cs = of_months (row_at ws gs cs) (months_in ws ++ (months_in gs ++ months_in cs))
