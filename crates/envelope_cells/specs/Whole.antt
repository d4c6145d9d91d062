-- The cells of a sheet, from what its categories have in the month.
use Rattle.std.specs.Prelude.{ℕ, Bool, true, false, ◌≡◌, ℤ, pos, neg_ℤ, ◌+ℤ◌, ◌-ℤ◌, List, [], ◌∷◌, ◌++◌, unwrap_or, if◌then◌else◌}
use Rattle.finite_sums.specs.Maps.{Text}
use Rattle.book_rows.specs.declared.rows.Rows.{Rows}
use Rattle.envelope_cells.specs.Cells.{money}
use Rattle.envelope_cells.specs.CellOf.{flag_value}
use Rattle.envelope_cells.specs.Ids.{month_number}
use Rattle.envelope_cells.specs.BudgetOf.{budget_of}
use Rattle.envelope_cells.specs.SheetOf.{cell, value_named}
use Rattle.envelope_cells.specs.Parts.{side_total, group_total}
use Rattle.envelope_cells.specs.declared.part.Part.{Part}
use Rattle.envelope_cells.specs.declared.part.GroupParts.{GroupParts}
use Rattle.envelope_cells.specs.declared.part.Pick.TheVariants.{Sum as OfSums, Budget as OfBudgets, Leftover as OfLeftovers, Before, Taken, Moved}
use Rattle.envelope_cells.specs.declared.whole.Whole.{Whole}
use Rattle.envelope_cells.specs.declared.name.Cell.{Cell}
use Rattle.envelope_cells.specs.declared.name.CellKind.{CellKind}
use Rattle.envelope_cells.specs.declared.name.CellKind.TheVariants.{TotalIncome, FromLastMonth, AvailableFunds, LastMonthOverspent, TotalBudgeted, Buffered, ToBudget, TotalSpent, TotalLeftover, GroupSum, GroupBudget, GroupLeftover, Sum, Budget as OfBudget, Carryover, Leftover}

-- what the month before left to budget and held back: all money up to then but what it left in the categories
abbrev pub from_last : List GroupParts → ℤ
from_last gs = (side_total Moved true gs +ℤ side_total Moved false gs) -ℤ side_total Before false gs

-- the amounts of the whole month
abbrev pub whole_of : List GroupParts → ℤ → Whole
whole_of gs held = record {
  income = side_total OfSums true gs;
  from_last = from_last gs;
  available = side_total OfSums true gs +ℤ from_last gs;
  overspent = side_total Taken false gs;
  budgeted = neg_ℤ (side_total OfBudgets false gs);
  buffered = held;
  to_budget = (((side_total OfSums true gs +ℤ from_last gs) +ℤ side_total Taken false gs) +ℤ neg_ℤ (side_total OfBudgets false gs)) -ℤ held;
  spent = side_total OfSums false gs;
  leftover = side_total OfLeftovers false gs;
}

-- their cells, under an id
abbrev pub funds_cells : ℕ → Text → Whole → List Cell
funds_cells month id w =
    cell month TotalIncome id w.income ∷ cell month FromLastMonth id w.from_last ∷ cell month AvailableFunds id w.available
    ∷ cell month LastMonthOverspent id w.overspent ∷ []

abbrev pub rest_cells : ℕ → Text → Whole → List Cell
rest_cells month id w =
    cell month TotalBudgeted id w.budgeted ∷ cell month Buffered id w.buffered ∷ cell month ToBudget id w.to_budget
    ∷ cell month TotalSpent id w.spent ∷ cell month TotalLeftover id w.leftover ∷ []

-- the cells of a category
abbrev pub part_cells : ℕ → Bool → Part → List Cell
part_cells month is_income p =
    cell month Sum p.id p.sum
    ∷ (if is_income then [] else cell month OfBudget p.id p.budget ∷ cell month Carryover p.id (flag_value p.carries) ∷ cell month Leftover p.id p.leftover ∷ [])

abbrev pub parts_cells : ℕ → Bool → List Part → List Cell
parts_cells month is_income [] = []
parts_cells month is_income (p ∷ ps) = part_cells month is_income p ++ parts_cells month is_income ps

-- the cells of a group alone
abbrev pub own_cells : ℕ → GroupParts → List Cell
own_cells month g =
    cell month GroupSum g.id (group_total OfSums g)
    ∷ (if g.is_income then [] else cell month GroupBudget g.id (group_total OfBudgets g) ∷ cell month GroupLeftover g.id (group_total OfLeftovers g) ∷ [])

-- each group, followed by its categories
abbrev pub all_cells : ℕ → List GroupParts → List Cell
all_cells month [] = []
all_cells month (g ∷ gs) = (own_cells month g ++ parts_cells month g.is_income g.parts) ++ all_cells month gs

-- the cells of the whole month, and then those of all groups
abbrev pub cells_from : ℕ → Whole → List GroupParts → List Cell
cells_from month w gs = funds_cells month [] w ++ rest_cells month [] w ++ all_cells month gs

-- the value of a cell of the whole month
abbrev pub whole_value : List Cell → ℕ → CellKind → ℤ
whole_value cells month kind = unwrap_or (value_named cells (record { month = month; kind = kind; id = [] })) (pos 0)

-- the money law, of the cells of a sheet
abbrev pub HasAllMoney : List Cell → Rows → ℕ → Type 0
HasAllMoney cells rows month = (whole_value cells month ToBudget +ℤ whole_value cells month Buffered) +ℤ whole_value cells month TotalLeftover ≡ money (budget_of rows) (month_number month)
