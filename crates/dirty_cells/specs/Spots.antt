-- Cells by id, and those of an id by month and kind.
use Rattle.std.specs.Prelude.{◌≡◌, refl, ℕ, ℤ, pos, List, [], ◌∷◌, ◌++◌, map, Option, unwrap_or, if◌then◌else◌}
use Rattle.std.specs.declared.cmp.Ordering.{Ordering}
use Rattle.std.specs.Ordering.{nat_cmp, ordering_then, eq_by_cmp}
use Rattle.std.specs.Coded.{Coded, code_by, coded×, coded_ℕ, coded_ℤ}
use Rattle.std.specs.FinMap.{FinMap, get, entries, from_entries, code}
use Rattle.std.specs.Cmp.{IsTotalOrder, on_total, nat_cmp_total}
use Rattle.std.proofs.lemmas.Cmp.{then_total}
use Rattle.finite_sums.specs.Maps.{Text, text_cmp}
use Rattle.envelope_cells.specs.Names.{Cells, kind_number}
use Rattle.envelope_cells.specs.declared.name.CellName.{CellName}
use Rattle.envelope_cells.specs.declared.name.CellKind.{CellKind}
use Rattle.envelope_cells.specs.declared.name.CellKind.TheVariants.{TotalIncome, FromLastMonth, AvailableFunds, LastMonthOverspent, TotalBudgeted, Buffered, ToBudget, TotalSpent, TotalLeftover, GroupSum, GroupBudget, GroupLeftover, Sum, Budget as OfBudget, Carryover, Leftover}
use Rattle.envelope_cells.specs.contracts.name.CellKind as cell_kind
use Rattle.dirty_cells.specs.declared.row.WholeCells.{WholeCells}
use Rattle.dirty_cells.specs.Right.{Settled}

-- a month and a kind: which of the cells of an id
pub record Spot : Type 0 where
  pub month : ℕ
  pub kind : CellKind

abbrev pub spot_code : Coded Spot
spot_code = code_by (ℕ × CellKind) (coded× coded_ℕ cell_kind.the_row.coded) (λ s. (s.month, s.kind)) (λ p. record { month = p.0; kind = p.1 }) (λ _. refl)

-- spots are ordered by month and kind
abbrev pub spot_cmp : Spot → Spot → Ordering
spot_cmp a b = ordering_then (nat_cmp a.month b.month) (nat_cmp (kind_number a.kind) (kind_number b.kind))

pub spots_total : IsTotalOrder spot_cmp
spots_total = then_total (on_total (λ s. s.month) nat_cmp_total) (on_total (λ s. kind_number s.kind) nat_cmp_total)

-- where a cell of an id stands
abbrev pub spot_at : ℕ → CellKind → Spot
spot_at month kind = record { month = month; kind = kind }

-- the cells of one id
abbrev pub RowCells : Type 0
RowCells = FinMap spot_cmp ℤ

abbrev pub row_code : Coded RowCells
row_code = code spot_code coded_ℤ

-- what a cell tells, or 0
abbrev pub value_in : RowCells → ℕ → CellKind → ℤ
value_in cells month kind = unwrap_or (get cells (spot_at month kind)) (pos 0)

-- the name of the cell at a spot of an id
abbrev pub name_at : Text → Spot → CellName
name_at id s = record { month = s.month; kind = s.kind; id = id }

-- the cells of an id, each under its name
abbrev pub named : Text → List (Spot × ℤ) → List (CellName × ℤ)
named id es = map (λ e. (name_at id e.0, e.1)) es

-- the cells of all ids
abbrev pub all_named : List (Text × RowCells) → List (CellName × ℤ)
all_named [] = []
all_named (r ∷ rs) = named r.0 (entries r.1) ++ all_named rs

-- all of them as one map, by name
abbrev pub flattened : FinMap text_cmp RowCells → Cells
flattened m = from_entries (all_named (entries m))

-- cells of an id with another value at a spot, or none
pub record RowSettled (old new : RowCells) (s : Spot) (value : Option ℤ) : Type 0 where
  pub each : (q : Spot) → get new q ≡ (if eq_by_cmp spot_cmp q s then value else get old q)

-- the value of a cell by its name, or 0
abbrev pub value_of_name : Cells → CellName → ℤ
value_of_name cells name = unwrap_or (get cells name) (pos 0)

-- one after the other: the four cells of a category in a month
pub record RowFour (old new : RowCells) (month : ℕ) (sum budget carryover leftover : Option ℤ) : Type 0 where
  pub one : RowCells
  pub two : RowCells
  pub three : RowCells
  pub first : RowSettled old one (spot_at month Sum) sum
  pub second : RowSettled one two (spot_at month OfBudget) budget
  pub third : RowSettled two three (spot_at month Carryover) carryover
  pub fourth : RowSettled three new (spot_at month Leftover) leftover

-- and the three of a group
pub record RowThree (old new : RowCells) (month : ℕ) (sum budget leftover : Option ℤ) : Type 0 where
  pub one : RowCells
  pub two : RowCells
  pub first : RowSettled old one (spot_at month GroupSum) sum
  pub second : RowSettled one two (spot_at month GroupBudget) budget
  pub third : RowSettled two new (spot_at month GroupLeftover) leftover

-- and the nine of a whole month
pub record RowNine (old new : RowCells) (month : ℕ) (cells : WholeCells) : Type 0 where
  pub one : RowCells
  pub two : RowCells
  pub three : RowCells
  pub four : RowCells
  pub five : RowCells
  pub six : RowCells
  pub seven : RowCells
  pub eight : RowCells
  pub first : RowSettled old one (spot_at month TotalIncome) cells.income
  pub second : RowSettled one two (spot_at month FromLastMonth) cells.from_last
  pub third : RowSettled two three (spot_at month AvailableFunds) cells.available
  pub fourth : RowSettled three four (spot_at month LastMonthOverspent) cells.overspent
  pub fifth : RowSettled four five (spot_at month TotalBudgeted) cells.budgeted
  pub sixth : RowSettled five six (spot_at month Buffered) cells.buffered
  pub seventh : RowSettled six seven (spot_at month ToBudget) cells.to_budget
  pub eighth : RowSettled seven eight (spot_at month TotalSpent) cells.spent
  pub ninth : RowSettled eight new (spot_at month TotalLeftover) cells.leftover

-- the same among the cells of all ids
pub record SettledFour (old new : Cells) (month : ℕ) (id : Text) (sum budget carryover leftover : Option ℤ) : Type 0 where
  pub one : Cells
  pub two : Cells
  pub three : Cells
  pub first : Settled old one (name_at id (spot_at month Sum)) sum
  pub second : Settled one two (name_at id (spot_at month OfBudget)) budget
  pub third : Settled two three (name_at id (spot_at month Carryover)) carryover
  pub fourth : Settled three new (name_at id (spot_at month Leftover)) leftover

pub record SettledThree (old new : Cells) (month : ℕ) (id : Text) (sum budget leftover : Option ℤ) : Type 0 where
  pub one : Cells
  pub two : Cells
  pub first : Settled old one (name_at id (spot_at month GroupSum)) sum
  pub second : Settled one two (name_at id (spot_at month GroupBudget)) budget
  pub third : Settled two new (name_at id (spot_at month GroupLeftover)) leftover

-- and of the nine cells of a whole month
pub record SettledNine (old new : Cells) (month : ℕ) (id : Text) (cells : WholeCells) : Type 0 where
  pub one : Cells
  pub two : Cells
  pub three : Cells
  pub four : Cells
  pub five : Cells
  pub six : Cells
  pub seven : Cells
  pub eight : Cells
  pub first : Settled old one (name_at id (spot_at month TotalIncome)) cells.income
  pub second : Settled one two (name_at id (spot_at month FromLastMonth)) cells.from_last
  pub third : Settled two three (name_at id (spot_at month AvailableFunds)) cells.available
  pub fourth : Settled three four (name_at id (spot_at month LastMonthOverspent)) cells.overspent
  pub fifth : Settled four five (name_at id (spot_at month TotalBudgeted)) cells.budgeted
  pub sixth : Settled five six (name_at id (spot_at month Buffered)) cells.buffered
  pub seventh : Settled six seven (name_at id (spot_at month ToBudget)) cells.to_budget
  pub eighth : Settled seven eight (name_at id (spot_at month TotalSpent)) cells.spent
  pub ninth : Settled eight new (name_at id (spot_at month TotalLeftover)) cells.leftover
