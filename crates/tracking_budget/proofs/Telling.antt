-- What the cells of a category tell.
use Rattle.std.proofs.Common.{◌≡◌, ℕ, ◌/◌, ◌%◌, Bool, true, false, Option, Some, None, ap, ◌∙◌}
use Rattle.std.specs.Prelude.{nat_le}
use lib.IntN.{ℤ}
use Rattle.std.specs.Int.{is_in_range}
use Rattle.std.proofs.lemmas.Bool.{and_parts, leb-true}
use Rattle.finite_sums.specs.Maps.{Text, value_or_zero, some_and}
use Rattle.book_rows.specs.declared.rows.Rows.{Rows}
use Rattle.book_rows.specs.declared.rows.BudgetRow.{BudgetRow}
use Rattle.book_rows.specs.Live.{is_live_category}
use Rattle.book_rows.specs.Months.{is_month}
use Rattle.envelope_cells.specs.BudgetOf.{category_sum, groups_of}
use Rattle.envelope_cells.specs.CellOf.{flag_value}
use Rattle.envelope_cells.specs.Ids.{month_number, month_at}
use Rattle.envelope_cells.proofs.Quiet.{month_back}
use Rattle.tracking_budget.specs.declared.name.TrackKind.{TrackKind}
use Rattle.tracking_budget.specs.declared.name.TrackKind.TheVariants.{TotalIncome, TotalBudgetIncome, TotalBudgeted, TotalSpent, TotalLeftover, TotalSaved, RealSaved, Sum, Budget as OfBudget, Carryover, Leftover}
use Rattle.tracking_budget.specs.Tracked.{tracked_of, left}
use Rattle.tracking_budget.specs.CellOf.{live_of, side_of, of_live}
use Rattle.tracking_budget.specs.Names.{is_of_month}
use Rattle.tracking_budget.specs.Told.{track_at, row_for, CategoriesAreTold}
use Rattle.tracking_budget.proofs.Sides.{sided, has_side}

month_is : (month : ℕ) → is_month month ≡ true → month_at (month_number month) ≡ month
month_is month h =
    let a = and_parts (is_in_range 1970 2199 (month / 100)) (is_in_range 1 12 (month % 100)) h in
    let y = and_parts (nat_le 1970 (month / 100)) (nat_le (month / 100) 2199) a.0 in
    let m = and_parts (nat_le 1 (month % 100)) (nat_le (month % 100) 12) a.1 in
    month_back month (leb-true 1970 (month / 100) y.0) (leb-true 1 (month % 100) m.0) (leb-true (month % 100) 12 m.1)

module _ (rows : Rows) (month : ℕ) (c : Text) (valid : is_month month ≡ true) where
  abbrev side : Option Bool
  side = side_of (live_of (groups_of rows)) c

  -- a cell of a live category whose side doesn't matter
  lives : (f : ℤ) → is_live_category rows c ≡ true → of_live side (λ is_income. f) ≡ Some f
  lives f h = let s = has_side rows c h in ap (λ o. of_live o (λ is_income. f)) s.1

  -- what the row of the month says
  given_by : (o : Option BudgetRow) → row_for rows month c ≡ o → value_or_zero (λ t. t.amount) (row_for rows (month_at (month_number month)) c) ≡ value_or_zero (λ t. t.amount) o
  given_by o e = ap (λ k. value_or_zero (λ t. t.amount) (row_for rows k c)) (month_is month valid) ∙ ap (value_or_zero (λ t. t.amount)) e

  flag_by : (o : Option BudgetRow) → row_for rows month c ≡ o → flag_value (some_and (λ t. t.carryover) (row_for rows (month_at (month_number month)) c)) ≡ flag_value (some_and (λ t. t.carryover) o)
  flag_by o e = ap (λ k. flag_value (some_and (λ t. t.carryover) (row_for rows k c))) (month_is month valid) ∙ ap (λ o. flag_value (some_and (λ t. t.carryover) o)) e

  absent : is_live_category rows c ≡ false → (kind : TrackKind) → is_of_month kind ≡ false → track_at rows month kind c ≡ None
  absent h TotalIncome k = cc
  absent h TotalBudgetIncome k = cc
  absent h TotalBudgeted k = cc
  absent h TotalSpent k = cc
  absent h TotalLeftover k = cc
  absent h TotalSaved k = cc
  absent h RealSaved k = cc
  absent h Sum k = ap (λ o. of_live o (λ is_income. (tracked_of rows).category_sum c (month_number month))) ((sided rows c).other h)
  absent h OfBudget k = ap (λ o. of_live o (λ is_income. (tracked_of rows).budgeted c (month_number month))) ((sided rows c).other h)
  absent h Carryover k = ap (λ o. of_live o (λ is_income. flag_value ((tracked_of rows).carries c (month_number month)))) ((sided rows c).other h)
  absent h Leftover k = ap (λ o. of_live o (λ is_income. left (tracked_of rows) is_income c (month_number month))) ((sided rows c).other h)

  pub categories_are_told_lem : CategoriesAreTold rows month c
  categories_are_told_lem = record {
    sum = λ h. lives (category_sum rows c (month_at (month_number month))) h ∙ ap (λ k. Some (category_sum rows c k)) (month_is month valid);
    given = λ h row e. lives ((tracked_of rows).budgeted c (month_number month)) h ∙ ap Some (given_by (Some row) e);
    carries = λ h row e f. lives (flag_value ((tracked_of rows).carries c (month_number month))) h ∙ ap Some (flag_by (Some row) e ∙ ap flag_value f);
    drops = λ h row e f. lives (flag_value ((tracked_of rows).carries c (month_number month))) h ∙ ap Some (flag_by (Some row) e ∙ ap flag_value f);
    none_given = λ h e. lives ((tracked_of rows).budgeted c (month_number month)) h ∙ ap Some (given_by None e);
    none_carried = λ h e. lives (flag_value ((tracked_of rows).carries c (month_number month))) h ∙ ap Some (flag_by None e);
    expense_left = λ h. ap (λ o. of_live o (λ is_income. left (tracked_of rows) is_income c (month_number month))) ((sided rows c).expense h);
    income_left = λ h. ap (λ o. of_live o (λ is_income. left (tracked_of rows) is_income c (month_number month))) ((sided rows c).income h);
    none = absent;
  }
