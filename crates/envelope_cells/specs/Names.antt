-- The names of cells, and their order.
use Rattle.std.specs.Prelude.{ℕ, ℤ}
use Rattle.std.specs.declared.cmp.Ordering.{Ordering}
use Rattle.std.specs.Ordering.{nat_cmp, ordering_then}
use Rattle.std.specs.BTreeMap.{BTreeMap}
use Rattle.std.specs.FinMap.{FinMap, from_entries}
use Rattle.std.specs.Cmp.{IsTotalOrder, on_total, nat_cmp_total}
use Rattle.std.proofs.lemmas.Cmp.{then_total, nat_list_cmp_total}
use Rattle.finite_sums.specs.Maps.{text_cmp}
use Rattle.envelope_cells.specs.declared.name.CellName.{CellName}
use Rattle.envelope_cells.specs.declared.name.CellKind.{CellKind}
use Rattle.envelope_cells.specs.declared.name.CellKind.TheVariants.{TotalIncome, FromLastMonth, AvailableFunds, LastMonthOverspent, TotalBudgeted, Buffered, ToBudget, TotalSpent, TotalLeftover, GroupSum, GroupBudget, GroupLeftover, Sum, Budget as OfBudget, Carryover, Leftover}

-- the place of a kind among all of them
abbrev pub kind_number : CellKind → ℕ
kind_number TotalIncome = 0
kind_number FromLastMonth = 1
kind_number AvailableFunds = 2
kind_number LastMonthOverspent = 3
kind_number TotalBudgeted = 4
kind_number Buffered = 5
kind_number ToBudget = 6
kind_number TotalSpent = 7
kind_number TotalLeftover = 8
kind_number GroupSum = 9
kind_number GroupBudget = 10
kind_number GroupLeftover = 11
kind_number Sum = 12
kind_number OfBudget = 13
kind_number Carryover = 14
kind_number Leftover = 15

-- names are ordered by month, kind and id
abbrev pub cell_cmp : CellName → CellName → Ordering
cell_cmp a b = ordering_then (nat_cmp a.month b.month) (ordering_then (nat_cmp (kind_number a.kind) (kind_number b.kind)) (text_cmp a.id b.id))

pub cells_total : IsTotalOrder cell_cmp
cells_total = then_total (on_total (λ n. n.month) nat_cmp_total) (then_total (on_total (λ n. kind_number n.kind) nat_cmp_total) (on_total (λ n. n.id) nat_list_cmp_total))

-- cells give values
abbrev pub Cells : Type 0
Cells = FinMap cell_cmp ℤ

-- the values of cells, from a map in memory
abbrev pub cells_in : BTreeMap CellName ℤ → Cells
cells_in values = from_entries values.entries
