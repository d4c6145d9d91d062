-- The text of a sheet.
use Rattle.std.specs.Prelude.{List, [], ◌∷◌, ◌++◌, codes}
use Rattle.std.specs.Fmt.{signed_decimal}
use Rattle.finite_sums.specs.Maps.{Text}
use Rattle.envelope_cells.specs.declared.name.Cell.{Cell}
use Rattle.envelope_cells.specs.declared.name.CellKind.{CellKind}
use Rattle.envelope_cells.specs.declared.name.CellKind.TheVariants.{TotalIncome, FromLastMonth, AvailableFunds, LastMonthOverspent, TotalBudgeted, Buffered, ToBudget, TotalSpent, TotalLeftover, GroupSum, GroupBudget, GroupLeftover, Sum, Budget as OfBudget, Carryover, Leftover}

-- the name of a kind, behind which the id stands
abbrev pub kind_text : CellKind → Text
kind_text TotalIncome = codes "total-income"
kind_text FromLastMonth = codes "from-last-month"
kind_text AvailableFunds = codes "available-funds"
kind_text LastMonthOverspent = codes "last-month-overspent"
kind_text TotalBudgeted = codes "total-budgeted"
kind_text Buffered = codes "buffered"
kind_text ToBudget = codes "to-budget"
kind_text TotalSpent = codes "total-spent"
kind_text TotalLeftover = codes "total-leftover"
kind_text GroupSum = codes "group-sum-amount-"
kind_text GroupBudget = codes "group-budget-"
kind_text GroupLeftover = codes "group-leftover-"
kind_text Sum = codes "sum-amount-"
kind_text OfBudget = codes "budget-"
kind_text Carryover = codes "carryover-"
kind_text Leftover = codes "leftover-"

-- one line: the name, a blank, the number, a line feed
abbrev pub cell_line : Cell → Text
cell_line c = kind_text c.name.kind ++ c.name.id ++ (32 ∷ []) ++ signed_decimal c.value ++ (10 ∷ [])

-- a line for each cell
abbrev pub sheet_text : List Cell → Text
sheet_text [] = []
sheet_text (c ∷ cs) = cell_line c ++ sheet_text cs
