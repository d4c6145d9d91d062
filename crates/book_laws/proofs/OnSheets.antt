-- What edits of budgets show on sheets.
use Rattle.std.proofs.Common.{◌≡◌, ℕ, Bool, List, Ok, ap, ◌∙◌}
use lib.IntN.{ℤ}
use Rattle.std.specs.FinMap.{get}
use Rattle.finite_sums.specs.Maps.{Text, some_and, value_or_zero}
use Rattle.book_rows.specs.declared.rows.Rows.{Rows}
use Rattle.book_rows.specs.declared.rows.BudgetRow.{BudgetRow}
use Rattle.book_rows.specs.declared.rows.MonthRow.{MonthRow}
use Rattle.book_rows.specs.declared.write.Write.{Write}
use Rattle.book_rows.specs.declared.fault.EditFault.TheVariants.{BadMonth}
use Rattle.book_rows.specs.Ids.{budget_id, month_id}
use Rattle.book_rows.specs.Months.{is_month}
use Rattle.book_edits.specs.Checks.{a_month}
use Rattle.book_edits.specs.Budgets.{budget, carryover, hold}
use Rattle.book_edits.proofs.Valid.{passed, was_so}
use Rattle.split_transfer.specs.After.{Ids, with_writes}
use Rattle.envelope_cells.specs.Ids.{month_number, month_at}
use Rattle.envelope_cells.specs.BudgetOf.{budget_of}
use Rattle.book_laws.specs.Showing.{EditsShowOnSheets}
use Rattle.book_laws.proofs.Numbered.{numbered}
use Rattle.book_laws.proofs.Done.{plain_done}

module _ (ids : Ids) (r : Rows) (ws : List Write) where
  abbrev after : Rows
  after = with_writes ids r ws

  -- the month of the number of a month
  month_back : (month : ℕ) (u : Unit {0}) → a_month month ≡ Ok u → month_at (month_number month) ≡ month
  month_back month u h = numbered.month month (was_so (is_month month) (BadMonth month) u h)

  given_so : (month : ℕ) (category : Text) (amount : ℤ) → budget r month category amount ≡ Ok ws → (budget_of after).budgeted category (month_number month) ≡ amount
  given_so month category amount h =
      let p = passed (a_month month) _ _ h in
      let b = (plain_done ids r ws).given month category amount h in
      ap (λ m. value_or_zero (λ (x : BudgetRow). x.amount) (get after.budgets (budget_id category m))) (month_back month p.0 p.1)
      ∙ ap (value_or_zero (λ (x : BudgetRow). x.amount)) b.1 ∙ b.2

  carried_so : (month : ℕ) (category : Text) (flag : Bool) → carryover r month category flag ≡ Ok ws → (budget_of after).carries category (month_number month) ≡ flag
  carried_so month category flag h =
      let p = passed (a_month month) _ _ h in
      let b = (plain_done ids r ws).carries month category flag h in
      ap (λ m. some_and (λ (x : BudgetRow). x.carryover) (get after.budgets (budget_id category m))) (month_back month p.0 p.1)
      ∙ ap (some_and (λ (x : BudgetRow). x.carryover)) b.1 ∙ b.2

  held_so : (month : ℕ) (amount : ℤ) → hold month amount ≡ Ok ws → (budget_of after).buffered (month_number month) ≡ amount
  held_so month amount h =
      let p = passed (a_month month) _ _ h in
      let b = (plain_done ids r ws).held month amount h in
      ap (λ m. value_or_zero (λ (x : MonthRow). x.buffered) (get after.months (month_id m))) (month_back month p.0 p.1)
      ∙ ap (value_or_zero (λ (x : MonthRow). x.buffered)) b.1 ∙ b.2

pub shown : (ids : Ids) (rows : Rows) (ws : List Write) → EditsShowOnSheets ids rows ws
shown ids rows ws = record { given = given_so ids rows ws; carried = carried_so ids rows ws; held = held_so ids rows ws }
