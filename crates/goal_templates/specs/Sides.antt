-- The categories of both sides of a sheet.
use Rattle.std.specs.Prelude.{Bool, not, List, filter, if◌then◌else◌}
use Rattle.finite_sums.specs.Maps.{Text}
use Rattle.envelope_cells.specs.Budget.{categories_of}
use Rattle.envelope_cells.specs.declared.groups.BudgetGroup.{BudgetGroup}

-- those of the groups that take income, or those of the others
abbrev pub is_on : Bool → BudgetGroup → Bool
is_on income g = if income then g.is_income else not g.is_income

abbrev pub ids_on : Bool → List BudgetGroup → List Text
ids_on income gs = categories_of (filter (is_on income) gs)
