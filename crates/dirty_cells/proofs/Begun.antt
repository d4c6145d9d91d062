-- What of a month is right before its cells are computed anew: after changes, and where the month was not covered.
use Rattle.std.proofs.Common.{◌≡◌, ℕ, ◌<◌, ◌≤◌, Bool, true, false, not, cond, List, [], ◌∷◌, Option, Some, None, refl, ap, sym, ◌∙◌, true≢false}
use lib.IntN.{ℤ}
use Rattle.std.specs.FinMap.{get}
use Rattle.std.specs.List.{filter}
use Rattle.finite_sums.specs.Maps.{Text, text_cmp, is_among, some_and}
use Rattle.book_rows.specs.declared.rows.Rows.{Rows}
use Rattle.book_rows.specs.Live.{is_live_category_row, has_income_group}
use Rattle.book_rows.specs.Months.{window_of}
use Rattle.std.specs.Prelude.{◌&&◌}
use Rattle.envelope_cells.specs.Names.{Cells}
use Rattle.envelope_cells.specs.Budget.{Budget, categories, expense}
use Rattle.envelope_cells.specs.BudgetOf.{budget_of, groups_of}
use Rattle.envelope_cells.specs.Places.{ids_of_group}
use Rattle.envelope_cells.specs.Cells.{leftover}
use Rattle.envelope_cells.specs.CellOf.{value_of, of_category, of_group, group_named, flag_value}
use Rattle.envelope_cells.specs.Ids.{month_at}
use Rattle.envelope_cells.specs.Parts.{IsPast}
use Rattle.envelope_cells.specs.declared.name.CellKind.{CellKind}
use Rattle.envelope_cells.specs.declared.name.CellKind.TheVariants.{TotalIncome, FromLastMonth, AvailableFunds, LastMonthOverspent, TotalBudgeted, Buffered, ToBudget, TotalSpent, TotalLeftover, GroupSum, GroupBudget, GroupLeftover, Sum, Budget as OfBudget, Carryover, Leftover}
use Rattle.envelope_cells.proofs.Quiet.{quiet_some, quiet_none}
use Rattle.dirty_cells.specs.Grid.{is_pending, SameBut, SameBefore, nothing}
use Rattle.dirty_cells.specs.Right.{cell_at, AreRightBut, none_pending}
use Rattle.dirty_cells.proofs.Chains.{stays, stays_before}
use Rattle.dirty_cells.proofs.Listed.{live_ones_are_listed_lem, all_pass, category_list}
use Rattle.dirty_cells.proofs.Groups.{named_is, side_of, group_by}

-- the cells that were right are right after changes, but for those of marked categories and groups and of the whole month
pub begins : (cells : Cells) (a b : Budget) (cs gs : List Text) (n : ℕ) → SameBut a b cs gs → AreRightBut cells a n none_pending → AreRightBut cells b n (is_pending cs gs true)
begins cells a b cs gs n same right = record { each = λ kind id h. right.each kind id refl ∙ stays a b cs gs same n kind id h }

-- before the first month that is touched all stay right
pub goes_on : (cells : Cells) (a b : Budget) (n m : ℕ) → SameBefore a b n → m < n → AreRightBut cells a m none_pending → AreRightBut cells b m none_pending
goes_on cells a b n m same l right = record { each = λ kind id h. right.each kind id refl ∙ stays_before a b n same m kind id l }

-- ---- a month that was not covered, of which nothing is kept
module _ (r : Rows) (cs gs : List Text) (all_categories : (c : Text) → is_among text_cmp cs c ≡ false → get r.categories c ≡ None) (all_groups : (g : Text) → is_among text_cmp gs g ≡ false → get r.groups g ≡ None) where
  no_category : (id : Text) (z : ℤ) → is_among text_cmp cs id ≡ false → None ≡ of_category (categories (budget_of r)) id z
  no_category id z h = sym (ap (λ t. cond t (Some z) None) ((live_ones_are_listed_lem r).category id ∙ ap (some_and (is_live_category_row r)) (all_categories id h)))

  no_expense : (id : Text) (z : ℤ) → is_among text_cmp cs id ≡ false → None ≡ of_category (expense (budget_of r)) id z
  no_expense id z h = sym (ap (λ t. cond t (Some z) None) ((live_ones_are_listed_lem r).expense id ∙ ap (some_and (λ c. is_live_category_row r c && not (has_income_group r c))) (all_categories id h)))

  no_group : (u : Bool → Bool) (f : Text → ℤ) (id : Text) → is_among text_cmp gs id ≡ false → None ≡ of_group f (group_named (filter (λ k. u k.is_income) (groups_of r)) id)
  no_group u f id h = sym (ap (of_group f) (named_is u id r ∙ ap (λ o. group_by u id r (side_of u o) (ids_of_group id (category_list r))) (all_groups id h)))

  pub nothing_kept : (cells : Cells) (n : ℕ) → ((kind : CellKind) (id : Text) → get cells (cell_at n kind id) ≡ None) → AreRightBut cells (budget_of r) n (is_pending cs gs true)
  nothing_kept cells n none = record { each = λ kind id h. none kind id ∙ told kind id h }
    where
      told : (kind : CellKind) (id : Text) → is_pending cs gs true kind id ≡ false → None ≡ value_of (budget_of r) n kind id
      told TotalIncome [] h = absurd (true≢false h)
      told TotalIncome (x ∷ id) h = refl
      told FromLastMonth [] h = absurd (true≢false h)
      told FromLastMonth (x ∷ id) h = refl
      told AvailableFunds [] h = absurd (true≢false h)
      told AvailableFunds (x ∷ id) h = refl
      told LastMonthOverspent [] h = absurd (true≢false h)
      told LastMonthOverspent (x ∷ id) h = refl
      told TotalBudgeted [] h = absurd (true≢false h)
      told TotalBudgeted (x ∷ id) h = refl
      told Buffered [] h = absurd (true≢false h)
      told Buffered (x ∷ id) h = refl
      told ToBudget [] h = absurd (true≢false h)
      told ToBudget (x ∷ id) h = refl
      told TotalSpent [] h = absurd (true≢false h)
      told TotalSpent (x ∷ id) h = refl
      told TotalLeftover [] h = absurd (true≢false h)
      told TotalLeftover (x ∷ id) h = refl
      told GroupSum id h = no_group (λ b. true) (λ c. (budget_of r).category_sum c n) id h ∙ ap (λ gs. of_group (λ c. (budget_of r).category_sum c n) (group_named gs id)) (all_pass (groups_of r))
      told GroupBudget id h = no_group not (λ c. (budget_of r).budgeted c n) id h
      told GroupLeftover id h = no_group not (λ c. leftover (budget_of r) c n) id h
      told Sum id h = no_category id ((budget_of r).category_sum id n) h
      told OfBudget id h = no_expense id ((budget_of r).budgeted id n) h
      told Carryover id h = no_expense id (flag_value ((budget_of r).carries id n)) h
      told Leftover id h = no_expense id (leftover (budget_of r) id n) h

-- ---- nothing is left of the months before the first that is covered, where the window is covered
pub quiet_first : (r : Rows) (first : ℕ) → first ≤ 2760 → ((span : ℕ × ℕ) → Some span ≡ window_of r → (k : ℕ) → k < first → month_at k < span.0) → (c : Text) → IsPast (budget_of r) c first nothing
quiet_first r first within below = by (window_of r) refl
  where
    by : (o : Option (ℕ × ℕ)) → o ≡ window_of r → (c : Text) → IsPast (budget_of r) c first nothing
    by None e = quiet_none r e first within
    by (Some span) e = quiet_some r span e first within (below span e)
