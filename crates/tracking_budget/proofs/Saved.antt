-- What is saved, what carries over, and what the budgets are read from.
use Rattle.std.proofs.Common.{◌≡◌, ℕ, Bool, true, false, suc, List, [], ◌∷◌, refl, ap, arith, add-one}
use lib.IntN.{pos, ◌+ℤ◌, ◌-ℤ◌}
use Rattle.std.proofs.lemmas.Int.{ints}
use Rattle.finite_sums.specs.Sums.{total}
use Rattle.finite_sums.specs.Maps.{Text}
use Rattle.book_rows.specs.declared.rows.Rows.{Rows}
use Rattle.envelope_cells.specs.Budget.{Budget, income, expense}
use Rattle.tracking_budget.specs.Tracked.{kept, left, left_before, kept_in}
use Rattle.tracking_budget.specs.Laws.{BudgetsAreApart, FlagsAloneCarry, SavedMoneyIsTold}

module _ (b : Budget) (m : ℕ) where
  expenses : (cs : List Text) → total (λ c. left b false c m) cs ≡ (total (λ c. b.budgeted c m) cs +ℤ total (λ c. b.category_sum c m) cs) +ℤ total (λ c. kept_in b false c m) cs
  expenses [] = omega (arith, ints)
  expenses (c ∷ cs) = omega (arith, ints, expenses cs)

  incomes : (cs : List Text) → total (λ c. left b true c m) cs ≡ (total (λ c. b.budgeted c m) cs -ℤ total (λ c. b.category_sum c m) cs) +ℤ total (λ c. kept_in b true c m) cs
  incomes [] = omega (arith, ints)
  incomes (c ∷ cs) = omega (arith, ints, incomes cs)

pub saved_money_is_told_lem : SavedMoneyIsTold
saved_money_is_told_lem b m = omega (arith, ints, expenses b m (expense b), incomes b m (income b))

-- a month with the flag hands on what it left, and one without it nothing
module _ (b : Budget) (is_income : Bool) (c : Text) (m : ℕ) where
  all : b.carries c m ≡ true → kept (b.carries c m) (left_before b is_income c (suc m)) ≡ left_before b is_income c (suc m)
  all h = ap (λ f. kept f (left_before b is_income c (suc m))) h

  none : b.carries c m ≡ false → kept (b.carries c m) (left_before b is_income c (suc m)) ≡ pos 0
  none h = ap (λ f. kept f (left_before b is_income c (suc m))) h

pub flags_alone_carry_lem : (b : Budget) (c : Text) → FlagsAloneCarry b c
flags_alone_carry_lem b c = record {
  first = omega (arith, ints);
  flagged = λ m h. rw add-one (omega (arith, ints, all b false c m h));
  unflagged = λ m h. rw add-one (omega (arith, ints, none b false c m h));
  income_first = omega (arith, ints);
  income_flagged = λ m h. rw add-one (omega (arith, ints, all b true c m h));
  income_unflagged = λ m h. rw add-one (omega (arith, ints, none b true c m h));
}

-- neither budget is read from the rows of the other
pub budgets_are_apart_lem : (rows : Rows) → BudgetsAreApart rows
budgets_are_apart_lem rows = record {
  envelope_sheet = λ tracked month. refl;
  envelope_cell = λ tracked name. refl;
  track_sheet = λ budgets months month. refl;
  track_cell = λ budgets months name. refl;
}
