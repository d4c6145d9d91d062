-- The names of cells as texts: the text of a kind, and behind it the id of a category.
use Rattle.std.specs.Prelude.{ℕ, Bool, true, false, ◌&&◌, not, nat_eq, List, [], ◌∷◌, ◌++◌, drop, length, codes, Option, None, Some, if◌then◌else◌}
use Rattle.std.specs.Fmt.{signed_decimal}
use Rattle.std.specs.List.{starts_with}
use Rattle.finite_sums.specs.Maps.{Text}
use Rattle.tracking_budget.specs.declared.name.TrackCell.{TrackCell}
use Rattle.tracking_budget.specs.declared.name.TrackName.{TrackName}
use Rattle.tracking_budget.specs.declared.name.TrackKind.{TrackKind}
use Rattle.tracking_budget.specs.declared.name.TrackKind.TheVariants.{TotalIncome, TotalBudgetIncome, TotalBudgeted, TotalSpent, TotalLeftover, TotalSaved, RealSaved, Sum, Budget, Carryover, Leftover}

-- the name of a kind, behind which the id stands
abbrev pub kind_text : TrackKind → Text
kind_text TotalIncome = codes "total-income"
kind_text TotalBudgetIncome = codes "total-budget-income"
kind_text TotalBudgeted = codes "total-budgeted"
kind_text TotalSpent = codes "total-spent"
kind_text TotalLeftover = codes "total-leftover"
kind_text TotalSaved = codes "total-saved"
kind_text RealSaved = codes "real-saved"
kind_text Sum = codes "sum-amount-"
kind_text Budget = codes "budget-"
kind_text Carryover = codes "carryover-"
kind_text Leftover = codes "leftover-"

-- the line of a cell: its name, a blank and its number
abbrev pub track_line : TrackCell → Text
track_line c = kind_text c.name.kind ++ c.name.id ++ 32 ∷ signed_decimal c.value

-- whether a cell of a kind is one of the whole month; the others are of a category
abbrev pub is_of_month : TrackKind → Bool
is_of_month Sum = false
is_of_month Budget = false
is_of_month Carryover = false
is_of_month Leftover = false
is_of_month other = true

abbrev pub all_kinds : List TrackKind
all_kinds =
    TotalIncome ∷ TotalBudgetIncome ∷ TotalBudgeted ∷ TotalSpent ∷ TotalLeftover ∷ TotalSaved ∷ RealSaved
    ∷ Sum ∷ Budget ∷ Carryover ∷ Leftover ∷ []

abbrev pub is_empty : Text → Bool
is_empty [] = true
is_empty (b ∷ bs) = false

-- what stands behind the text of a kind: an id, and nothing where the kind is of the whole month
abbrev pub id_behind : TrackKind → Text → Option Text
id_behind kind name =
    if starts_with nat_eq name (kind_text kind)
    then (if is_of_month kind && not (is_empty (drop (length (kind_text kind)) name)) then None else Some (drop (length (kind_text kind)) name))
    else None

-- the cell of this kind, or else another one
abbrev pub this_or : ℕ → TrackKind → Option Text → Option TrackName → Option TrackName
this_or month kind None other = other
this_or month kind (Some id) other = Some (record { month = month; kind = kind; id = id })

-- the cell of a month that a text names, if it is one of some kinds
abbrev pub named_by : List TrackKind → ℕ → Text → Option TrackName
named_by [] month text = None
named_by (kind ∷ kinds) month text = this_or month kind (id_behind kind text) (named_by kinds month text)

abbrev pub track_named : ℕ → Text → Option TrackName
track_named month text = named_by all_kinds month text
