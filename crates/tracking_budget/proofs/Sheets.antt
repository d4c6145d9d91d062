-- A sheet tells the cells of its month, and no others.
use Rattle.std.proofs.Common.{◌≡◌, ℕ, Bool, true, false, cond, List, [], ◌∷◌, ◌++◌, Some, None, refl, ap, sym, ◌∙◌, arith}
use Rattle.std.specs.Prelude.{◌==◌}
use lib.IntN.{ℤ}
use Rattle.std.specs.Ordering.{eq_by_cmp}
use Rattle.std.proofs.lemmas.Bool.Decides.{nat_tests}
use Rattle.finite_sums.specs.Maps.{Text, text_cmp}
use Rattle.envelope_cells.specs.Budget.{Budget}
use Rattle.envelope_cells.specs.CellOf.{flag_value}
use Rattle.envelope_cells.specs.Ids.{month_number}
use Rattle.envelope_cells.proofs.Among.{same_texts}
use Rattle.tracking_budget.specs.declared.live.LiveCategory.{LiveCategory}
use Rattle.tracking_budget.specs.declared.name.TrackCell.{TrackCell}
use Rattle.tracking_budget.specs.declared.name.TrackName.{TrackName}
use Rattle.tracking_budget.specs.declared.name.TrackKind.{TrackKind}
use Rattle.tracking_budget.specs.declared.name.TrackKind.TheVariants.{TotalIncome, TotalBudgetIncome, TotalBudgeted, TotalSpent, TotalLeftover, TotalSaved, RealSaved, Sum, Budget as OfBudget, Carryover, Leftover}
use Rattle.tracking_budget.specs.Tracked.{left}
use Rattle.tracking_budget.specs.CellOf.{live_of, side_of, of_live, value_of}
use Rattle.tracking_budget.specs.SheetOf.{month_cells, category_cells, live_cells, value_named}
use Rattle.tracking_budget.specs.Laws.{TrackSheetsTellCells}

month_itself : (n : ℕ) → (n == n) ≡ true
month_itself n = grind (arith, nat_tests)

abbrev name : ℕ → TrackKind → Text → TrackName
name month k id = record { month = month; kind = k; id = id }

-- the cell of a category, or one of the others
pick : (id : Text) (l : LiveCategory) (ls : List LiveCategory) (f : Text → Bool → ℤ) → cond (eq_by_cmp text_cmp id l.id) (Some (f l.id l.is_income)) (of_live (side_of ls id) (f id)) ≡ of_live (side_of (l ∷ ls) id) (f id)
pick id l ls f = by (eq_by_cmp text_cmp id l.id) refl
  where
    by : (t : Bool) → eq_by_cmp text_cmp id l.id ≡ t → cond t (Some (f l.id l.is_income)) (of_live (side_of ls id) (f id)) ≡ of_live (cond t (Some l.is_income) (side_of ls id)) (f id)
    by true e = ap (λ q. Some (f q l.is_income)) (sym (same_texts id l.id e))
    by false e = refl

module _ (b : Budget) (month m : ℕ) (id : Text) where
  -- ---- the cells of categories
  abbrev IsTold : TrackKind → (Text → Bool → ℤ) → Type 0
  IsTold k f = (l : LiveCategory) (rest : List TrackCell) → value_named (category_cells b month m l ++ rest) (name month k id) ≡ cond (eq_by_cmp text_cmp id l.id) (Some (f l.id l.is_income)) (value_named rest (name month k id))

  told : (k : TrackKind) (f : Text → Bool → ℤ) → IsTold k f → (ls : List LiveCategory) → value_named (live_cells b month m ls) (name month k id) ≡ of_live (side_of ls id) (f id)
  told k f one [] = refl
  told k f one (l ∷ ls) =
      one l (live_cells b month m ls)
      ∙ ap (λ o. cond (eq_by_cmp text_cmp id l.id) (Some (f l.id l.is_income)) o) (told k f one ls)
      ∙ pick id l ls f

  sum_told : IsTold Sum (λ c is_income. b.category_sum c m)
  sum_told l rest = rw (month_itself month) refl

  budget_told : IsTold OfBudget (λ c is_income. b.budgeted c m)
  budget_told l rest = rw (month_itself month) refl

  carryover_told : IsTold Carryover (λ c is_income. flag_value (b.carries c m))
  carryover_told l rest = rw (month_itself month) refl

  leftover_told : IsTold Leftover (λ c is_income. left b is_income c m)
  leftover_told l rest = rw (month_itself month) refl

  -- none of them is of the whole month
  abbrev IsPassed : TrackKind → Type 0
  IsPassed k = (l : LiveCategory) (rest : List TrackCell) → value_named (category_cells b month m l ++ rest) (name month k id) ≡ value_named rest (name month k id)

  passed : (k : TrackKind) → IsPassed k → (ls : List LiveCategory) → value_named (live_cells b month m ls) (name month k id) ≡ None
  passed k one [] = refl
  passed k one (l ∷ ls) = one l (live_cells b month m ls) ∙ passed k one ls

  -- ---- the cells of the whole month stand before them
  abbrev all_cells : List TrackCell
  all_cells = month_cells b month m ++ live_cells b month m (live_of b.groups)

  behind : (k : TrackKind) (f : Text → Bool → ℤ) → IsTold k f → ((rest : List TrackCell) → value_named (month_cells b month m ++ rest) (name month k id) ≡ value_named rest (name month k id)) → value_named all_cells (name month k id) ≡ of_live (side_of (live_of b.groups) id) (f id)
  behind k f one over = over (live_cells b month m (live_of b.groups)) ∙ told k f one (live_of b.groups)

-- one of the whole month has no id
with_id : (b : Budget) (month m : ℕ) (x : ℕ) (xs : Text) (k : TrackKind) → IsPassed b month m (x ∷ xs) k → ((rest : List TrackCell) → value_named (month_cells b month m ++ rest) (name month k (x ∷ xs)) ≡ value_named rest (name month k (x ∷ xs))) → value_named (all_cells b month m (x ∷ xs)) (name month k (x ∷ xs)) ≡ None
with_id b month m x xs k one over = over (live_cells b month m (live_of b.groups)) ∙ passed b month m (x ∷ xs) k one (live_of b.groups)

value_is : (b : Budget) (month m : ℕ) (id : Text) (k : TrackKind) → value_named (all_cells b month m id) (name month k id) ≡ value_of b m k id
value_is b month m [] TotalIncome = rw (month_itself month) refl
value_is b month m (x ∷ xs) TotalIncome = with_id b month m x xs TotalIncome (λ l rest. rw (month_itself month) refl) (λ rest. rw (month_itself month) refl)
value_is b month m [] TotalBudgetIncome = rw (month_itself month) refl
value_is b month m (x ∷ xs) TotalBudgetIncome = with_id b month m x xs TotalBudgetIncome (λ l rest. rw (month_itself month) refl) (λ rest. rw (month_itself month) refl)
value_is b month m [] TotalBudgeted = rw (month_itself month) refl
value_is b month m (x ∷ xs) TotalBudgeted = with_id b month m x xs TotalBudgeted (λ l rest. rw (month_itself month) refl) (λ rest. rw (month_itself month) refl)
value_is b month m [] TotalSpent = rw (month_itself month) refl
value_is b month m (x ∷ xs) TotalSpent = with_id b month m x xs TotalSpent (λ l rest. rw (month_itself month) refl) (λ rest. rw (month_itself month) refl)
value_is b month m [] TotalLeftover = rw (month_itself month) refl
value_is b month m (x ∷ xs) TotalLeftover = with_id b month m x xs TotalLeftover (λ l rest. rw (month_itself month) refl) (λ rest. rw (month_itself month) refl)
value_is b month m [] TotalSaved = rw (month_itself month) refl
value_is b month m (x ∷ xs) TotalSaved = with_id b month m x xs TotalSaved (λ l rest. rw (month_itself month) refl) (λ rest. rw (month_itself month) refl)
value_is b month m [] RealSaved = rw (month_itself month) refl
value_is b month m (x ∷ xs) RealSaved = with_id b month m x xs RealSaved (λ l rest. rw (month_itself month) refl) (λ rest. rw (month_itself month) refl)
value_is b month m id Sum = behind b month m id Sum (λ c is_income. b.category_sum c m) (sum_told b month m id) (λ rest. rw (month_itself month) refl)
value_is b month m id OfBudget = behind b month m id OfBudget (λ c is_income. b.budgeted c m) (budget_told b month m id) (λ rest. rw (month_itself month) refl)
value_is b month m id Carryover = behind b month m id Carryover (λ c is_income. flag_value (b.carries c m)) (carryover_told b month m id) (λ rest. rw (month_itself month) refl)
value_is b month m id Leftover = behind b month m id Leftover (λ c is_income. left b is_income c m) (leftover_told b month m id) (λ rest. rw (month_itself month) refl)

pub track_sheets_tell_cells_lem : TrackSheetsTellCells
track_sheets_tell_cells_lem b n = value_is b n.month (month_number n.month) n.id n.kind
