-- What the law on a filled month says.
use Rattle.std.specs.Prelude.{◌≡◌, ◌≢◌, ℕ, true, false, List, [], ℤ, pos, ◌-ℤ◌, ◌≤ℤ◌, Ok}
use Rattle.std.specs.Int.{int_min}
use Rattle.std.specs.FinMap as map
use Rattle.finite_sums.specs.Maps.{Text}
use Rattle.book_rows.specs.declared.rows.Rows.{Rows}
use Rattle.book_rows.specs.declared.write.Write.{Write}
use Rattle.book_rows.specs.Ids.{budget_id}
use Rattle.book_rows.specs.Months.{is_month}
use Rattle.split_transfer.specs.After.{Ids, with_writes}
use Rattle.split_transfer.specs.Right.{StayRight}
use Rattle.envelope_cells.specs.BudgetOf.{budget_of, budgeted, carries}
use Rattle.envelope_cells.specs.Cells.{to_budget}
use Rattle.envelope_cells.specs.Ids.{month_number}
use Rattle.goal_templates.specs.Notes.{templates}
use Rattle.goal_templates.specs.Sharing.{got, all_given}
use Rattle.goal_templates.specs.SharingLaws.{AreFair, first_given}
use Rattle.goal_templates.specs.Allocation.{has_template, shared_money}
use Rattle.goal_templates.specs.Goals.{shares_in, goal_writes}

-- the money of a month YYYYMM, by the templates of the book
abbrev pub money_in : Rows → ℕ → ℤ
money_in rows month = shared_money (budget_of rows) (month_number month) (templates rows)

-- what is promised of the shares of a month, and of the rows after its writes
pub record IsFilled (rows : Rows) (month : ℕ) (after : Rows) : Type 0 where
  -- each template is given its want, but for those of another priority than 0 where the money is out
  pub fair : AreFair (money_in rows month) (pos 0) (shares_in rows month)
  -- a category with a template then has what its templates were given
  pub given : (c : Text) → has_template (templates rows) c ≡ true → budgeted after c month ≡ got c (shares_in rows month)
  -- no other budget changes: not of another category, and not of another month
  pub others : (c : Text) → has_template (templates rows) c ≡ false → budgeted after c month ≡ budgeted rows c month
  pub elsewhere : (c : Text) (k : ℕ) → is_month k ≡ true → k ≢ month → budgeted after c k ≡ budgeted rows c k
  -- nor does any other row, nor whether a category carries over
  pub carries : (c : Text) (k : ℕ) → carries after c k ≡ carries rows c k
  pub unnamed : (id : Text) → ((c : Text) → has_template (templates rows) c ≡ true → id ≢ budget_id c month) → map.get after.budgets id ≡ map.get rows.budgets id
  pub rest : after ≡ record rows { budgets = after.budgets }
  -- so pairs and splits are as right as before
  pub right : StayRight rows after
  -- what is to budget then is what there was to share out, less all that was given
  pub money : to_budget (budget_of after) (month_number month) ≡ (money_in rows month -ℤ all_given (shares_in rows month))
  -- at least the lesser of 0 and what the first priority leaves
  pub left : int_min (pos 0) (money_in rows month -ℤ first_given (shares_in rows month)) ≤ℤ to_budget (budget_of after) (month_number month)
  -- a second time there is nothing to write
  pub again : goal_writes after month ≡ Ok []

abbrev pub GoalsAreFilled : Type 0
GoalsAreFilled = (ids : Ids) (rows : Rows) (month : ℕ) (ws : List Write) → goal_writes rows month ≡ Ok ws → IsFilled rows month (with_writes ids rows ws)
