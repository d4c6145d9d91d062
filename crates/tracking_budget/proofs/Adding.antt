-- The cells of the whole month add up those of categories.
use Rattle.std.proofs.Common.{◌≡◌, ℕ, Bool, true, false, [], refl, ap, sym, ◌∙◌}
use Rattle.std.specs.Prelude.{unwrap_or}
use lib.IntN.{ℤ, pos, ◌+ℤ◌, ◌-ℤ◌}
use Rattle.finite_sums.specs.Sums.{total}
use Rattle.finite_sums.specs.Maps.{Text, text_cmp, is_among}
use Rattle.book_rows.specs.declared.rows.Rows.{Rows}
use Rattle.envelope_cells.specs.Budget.{Budget, income, expense}
use Rattle.envelope_cells.specs.BudgetOf.{groups_of}
use Rattle.envelope_cells.specs.Ids.{month_number}
use Rattle.envelope_cells.proofs.Among.{total_on}
use Rattle.envelope_cells.proofs.Listed.{live_ones_are_listed_lem}
use Rattle.tracking_budget.specs.declared.name.TrackKind.{TrackKind}
use Rattle.tracking_budget.specs.declared.name.TrackKind.TheVariants.{TotalIncome, TotalBudgetIncome, TotalBudgeted, TotalSpent, TotalLeftover, TotalSaved, RealSaved, Sum, Budget as OfBudget, Leftover}
use Rattle.tracking_budget.specs.Tracked.{tracked_of, left}
use Rattle.tracking_budget.specs.CellOf.{live_of, side_of, of_live, value_of}
use Rattle.tracking_budget.specs.Told.{told_of, TotalsAddUp}
use Rattle.tracking_budget.proofs.Sheets.{track_sheets_tell_cells_lem}
use Rattle.tracking_budget.proofs.Sides.{sided}

module _ (rows : Rows) (month : ℕ) where
  abbrev b : Budget
  b = tracked_of rows

  abbrev m : ℕ
  m = month_number month

  -- what the sheet tells is what the cell tells
  told : (k : TrackKind) (id : Text) → told_of rows month k id ≡ unwrap_or (value_of b m k id) (pos 0)
  told k id = ap (λ o. unwrap_or o (pos 0)) (track_sheets_tell_cells_lem b (record { month = month; kind = k; id = id }))

  -- and that of a category on a side
  of_income : (k : TrackKind) (f : Text → Bool → ℤ) → ((id : Text) → value_of b m k id ≡ of_live (side_of (live_of (groups_of rows)) id) (f id)) → (c : Text) → is_among text_cmp (income b) c ≡ true → told_of rows month k c ≡ f c true
  of_income k f is c h =
      told k c ∙ ap (λ o. unwrap_or o (pos 0)) (is c)
      ∙ ap (λ s. unwrap_or (of_live s (f c)) (pos 0)) ((sided rows c).income (sym ((live_ones_are_listed_lem rows).income c) ∙ h))

  of_expense : (k : TrackKind) (f : Text → Bool → ℤ) → ((id : Text) → value_of b m k id ≡ of_live (side_of (live_of (groups_of rows)) id) (f id)) → (c : Text) → is_among text_cmp (expense b) c ≡ true → told_of rows month k c ≡ f c false
  of_expense k f is c h =
      told k c ∙ ap (λ o. unwrap_or o (pos 0)) (is c)
      ∙ ap (λ s. unwrap_or (of_live s (f c)) (pos 0)) ((sided rows c).expense (sym ((live_ones_are_listed_lem rows).expense c) ∙ h))

  incomes : (k : TrackKind) (f : Text → Bool → ℤ) → ((id : Text) → value_of b m k id ≡ of_live (side_of (live_of (groups_of rows)) id) (f id)) → total (λ c. f c true) (income b) ≡ total (told_of rows month k) (income b)
  incomes k f is = total_on (λ c. f c true) (told_of rows month k) (income b) (λ c h. sym (of_income k f is c h))

  expenses : (k : TrackKind) (f : Text → Bool → ℤ) → ((id : Text) → value_of b m k id ≡ of_live (side_of (live_of (groups_of rows)) id) (f id)) → total (λ c. f c false) (expense b) ≡ total (told_of rows month k) (expense b)
  expenses k f is = total_on (λ c. f c false) (told_of rows month k) (expense b) (λ c h. sym (of_expense k f is c h))

  pub totals_add_up_lem : TotalsAddUp rows month
  totals_add_up_lem = record {
    came_in = told TotalIncome [] ∙ incomes Sum (λ c is_income. b.category_sum c m) (λ id. refl);
    planned = told TotalBudgetIncome [] ∙ incomes OfBudget (λ c is_income. b.budgeted c m) (λ id. refl);
    budgeted = told TotalBudgeted [] ∙ expenses OfBudget (λ c is_income. b.budgeted c m) (λ id. refl);
    spent = told TotalSpent [] ∙ expenses Sum (λ c is_income. b.category_sum c m) (λ id. refl);
    left = told TotalLeftover [] ∙ expenses Leftover (λ c is_income. left b is_income c m) (λ id. refl);
    to_save = told TotalSaved [] ∙ (λ i. sym (told TotalBudgetIncome []) i -ℤ sym (told TotalBudgeted []) i);
    saved = told RealSaved [] ∙ (λ i. sym (told TotalIncome []) i +ℤ sym (told TotalSpent []) i);
  }
