-- What the notes of a book make of a month.
use Rattle.std.specs.Prelude.{ℕ, Bool, not, ◌&&◌, List, [], ◌∷◌, flat_map, codes, Result, Ok, if◌then◌else◌}
use Rattle.std.specs.Ordering.{int_eq}
use Rattle.field_values.specs.declared.value.Value.TheVariants.{Number}
use Rattle.finite_sums.specs.Maps.{Text}
use Rattle.book_rows.specs.declared.rows.Rows.{Rows}
use Rattle.book_rows.specs.declared.write.Write.{Write}
use Rattle.book_rows.specs.declared.fault.EditFault.{EditFault}
use Rattle.book_rows.specs.Ids.{budget_id}
use Rattle.book_edits.specs.Faults.{◌>>=◌, Check, each}
use Rattle.book_edits.specs.Checks.{a_month, an_amount, a_name}
use Rattle.book_edits.specs.Budgets.{budgeted, budget_writes}
use Rattle.envelope_cells.specs.Budget.{expense}
use Rattle.envelope_cells.specs.BudgetOf.{budget_of}
use Rattle.envelope_cells.specs.Ids.{month_number}
use Rattle.goal_templates.specs.declared.share.Share.{Share}
use Rattle.goal_templates.specs.declared.share.Grant.{Grant}
use Rattle.goal_templates.specs.Notes.{templates}
use Rattle.goal_templates.specs.Sharing.{got, has_share}
use Rattle.goal_templates.specs.Allocation.{allocation}

-- the shares of a month YYYYMM
abbrev pub shares_in : Rows → ℕ → List Share
shares_in rows month = allocation (budget_of rows) (month_number month) (templates rows)

-- a category with a template is written where what it is given by shares differs from its budget
abbrev pub differs : Rows → ℕ → List Share → Text → Bool
differs rows month ss c = has_share ss c && not (int_eq (got c ss) (budgeted rows c month))

abbrev pub granted : Rows → ℕ → List Share → Text → List Grant
granted rows month ss c = if differs rows month ss c then record { category = c; amount = got c ss } ∷ [] else []

-- those of categories, one after the other
abbrev pub grants : Rows → ℕ → List Share → List Text → List Grant
grants rows month ss cs = flat_map (granted rows month ss) cs

-- those of a month YYYYMM, in the order of the sheet
abbrev pub grants_in : Rows → ℕ → List Grant
grants_in rows month = grants rows month (shares_in rows month) (expense (budget_of rows))

abbrev pub grant_writes : Rows → ℕ → Grant → List Write
grant_writes rows month g = budget_writes rows g.category month (codes "amount") (Number g.amount)

-- a value holds each amount, and the ids of the rows are names
abbrev pub may_grant : ℕ → List Grant → Check
may_grant month gs = do
  _ ← each (λ (g : Grant). an_amount g.amount) gs
  each (λ (g : Grant). a_name (budget_id g.category month)) gs

-- a month YYYYMM is filled by its templates
abbrev pub goal_writes : Rows → ℕ → Result (List Write) EditFault
goal_writes rows month = do
  _ ← a_month month
  _ ← may_grant month (grants_in rows month)
  Ok (flat_map (grant_writes rows month) (grants_in rows month))
