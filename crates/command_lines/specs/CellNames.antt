-- The names of cells: the text of a kind, and behind it the id of a category or a group.
use Rattle.std.specs.Prelude.{ℕ, Bool, true, false, ◌&&◌, not, nat_eq, List, [], ◌∷◌, drop, length, Option, None, Some, if◌then◌else◌}
use Rattle.std.specs.List.{starts_with}
use Rattle.finite_sums.specs.Maps.{Text}
use Rattle.envelope_cells.specs.declared.name.CellName.{CellName}
use Rattle.envelope_cells.specs.declared.name.CellKind.{CellKind}
use Rattle.envelope_cells.specs.declared.name.CellKind.TheVariants.{TotalIncome, FromLastMonth, AvailableFunds, LastMonthOverspent, TotalBudgeted, Buffered, ToBudget, TotalSpent, TotalLeftover, GroupSum, GroupBudget, GroupLeftover, Sum, Budget, Carryover, Leftover}
use Rattle.envelope_cells.specs.Text.{kind_text}

-- whether a cell of a kind is one of a group, and whether it is one of the whole month; the others are of a category
abbrev pub is_of_group : CellKind → Bool
is_of_group GroupSum = true
is_of_group GroupBudget = true
is_of_group GroupLeftover = true
is_of_group other = false

abbrev pub is_of_month : CellKind → Bool
is_of_month GroupSum = false
is_of_month GroupBudget = false
is_of_month GroupLeftover = false
is_of_month Sum = false
is_of_month Budget = false
is_of_month Carryover = false
is_of_month Leftover = false
is_of_month other = true

abbrev pub all_kinds : List CellKind
all_kinds =
    TotalIncome ∷ FromLastMonth ∷ AvailableFunds ∷ LastMonthOverspent ∷ TotalBudgeted ∷ Buffered ∷ ToBudget ∷ TotalSpent ∷ TotalLeftover
    ∷ GroupSum ∷ GroupBudget ∷ GroupLeftover ∷ Sum ∷ Budget ∷ Carryover ∷ Leftover ∷ []

abbrev pub is_empty : Text → Bool
is_empty [] = true
is_empty (b ∷ bs) = false

-- what stands behind the text of a kind: an id, and nothing where the kind is of the whole month
abbrev pub id_behind : CellKind → Text → Option Text
id_behind kind name =
    if starts_with nat_eq name (kind_text kind)
    then (if is_of_month kind && not (is_empty (drop (length (kind_text kind)) name)) then None else Some (drop (length (kind_text kind)) name))
    else None

-- the cell of this kind, or else another one
abbrev pub this_or : ℕ → CellKind → Option Text → Option CellName → Option CellName
this_or month kind None other = other
this_or month kind (Some id) other = Some (record { month = month; kind = kind; id = id })

-- the cell of a month that a name names, if it is one of some kinds
abbrev pub named_by : List CellKind → ℕ → Text → Option CellName
named_by [] month name = None
named_by (kind ∷ kinds) month name = this_or month kind (id_behind kind name) (named_by kinds month name)

abbrev pub cell_named : ℕ → Text → Option CellName
cell_named month name = named_by all_kinds month name
