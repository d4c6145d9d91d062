-- What edits of budgets show on sheets.
use Rattle.std.specs.Prelude.{◌≡◌, ℕ, ℤ, Bool, List, Ok}
use Rattle.finite_sums.specs.Maps.{Text}
use Rattle.book_rows.specs.declared.rows.Rows.{Rows}
use Rattle.book_rows.specs.declared.write.Write.{Write}
use Rattle.book_edits.specs.Budgets.{budget, carryover, hold}
use Rattle.split_transfer.specs.After.{Ids, with_writes}
use Rattle.envelope_cells.specs.Ids.{month_number}
use Rattle.envelope_cells.specs.BudgetOf.{budget_of}

-- what an edit that is accepted gives a category in a month is what the month's sheet is made of; so is whether it carries over, and what is
-- held back
pub record EditsShowOnSheets (ids : Ids) (rows : Rows) (ws : List Write) : Type 0 where
  pub given : (month : ℕ) (category : Text) (amount : ℤ) → budget rows month category amount ≡ Ok ws → (budget_of (with_writes ids rows ws)).budgeted category (month_number month) ≡ amount
  pub carried : (month : ℕ) (category : Text) (flag : Bool) → carryover rows month category flag ≡ Ok ws → (budget_of (with_writes ids rows ws)).carries category (month_number month) ≡ flag
  pub held : (month : ℕ) (amount : ℤ) → hold month amount ≡ Ok ws → (budget_of (with_writes ids rows ws)).buffered (month_number month) ≡ amount
