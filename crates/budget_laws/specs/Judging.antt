-- What the filling of a month asks for, and how it is refused.
use Rattle.std.specs.Prelude.{◌≡◌, ℕ, ℤ, unsigned_abs, nat_le, Bool, not, ◌&&◌, List, [], ◌∷◌, ◌++◌, filter, map as list_map, Option, None, Some, Result, Ok, Err, if◌then◌else◌}
use Rattle.std.specs.Option.{is_none}
use Rattle.std.specs.Ordering.{int_eq}
use Rattle.field_values.specs.declared.name.NamePart.TheVariants.{Row}
use Rattle.field_values.specs.Names.{name_fault}
use Rattle.field_values.specs.Value.{largest_number}
use Rattle.finite_sums.specs.Maps.{Text}
use Rattle.book_rows.specs.declared.rows.Rows.{Rows}
use Rattle.book_rows.specs.declared.fault.EditFault.{EditFault}
use Rattle.book_rows.specs.declared.fault.EditFault.TheVariants.{BadId, BadAmount, BadMonth}
use Rattle.book_rows.specs.Ids.{budget_id}
use Rattle.book_rows.specs.Months.{is_month}
use Rattle.envelope_cells.specs.Budget.{expense}
use Rattle.envelope_cells.specs.BudgetOf.{budget_of, budgeted}
use Rattle.goal_templates.specs.Notes.{templates}
use Rattle.goal_templates.specs.Sharing.{got}
use Rattle.goal_templates.specs.Allocation.{has_template}
use Rattle.goal_templates.specs.Goals.{shares_in, goal_writes}
use Rattle.book_laws.specs.Asking.{unless, fault_of, first_fault}

-- what the templates of a category give it in a month YYYYMM
abbrev pub given : Rows → ℕ → Text → ℤ
given rows month c = got c (shares_in rows month)

-- the categories that are written, in the order of the sheet: those that have a template, and whose budget is not what their templates give them
abbrev pub written : Rows → ℕ → List Text
written rows month = filter (λ c. has_template (templates rows) c && not (int_eq (given rows month c) (budgeted rows c month))) (expense (budget_of rows))

-- what is asked for, in this order, and the fault that is told where it isn't so: a month; then amounts that a value holds; then names of rows
abbrev pub asked : Rows → ℕ → List (Option EditFault)
asked rows month =
    unless (is_month month) (BadMonth month)
    ∷ (list_map (λ c. unless (nat_le (unsigned_abs (given rows month c)) largest_number) (BadAmount (given rows month c))) (written rows month)
    ++ list_map (λ c. unless (is_none (name_fault Row (budget_id c month))) (BadId (budget_id c month))) (written rows month))

-- the filling of a month is refused with the first fault of what it asks for, and accepted where there is none
abbrev pub GoalsAreJudged : Type 0
GoalsAreJudged = (rows : Rows) (month : ℕ) → fault_of (goal_writes rows month) ≡ first_fault (asked rows month)
