-- The money law.
use Rattle.std.proofs.Common.{◌≡◌, ℕ, Bool, true, false, not, cond, List, [], ◌∷◌, ◌++◌, zero, suc, refl, ap, sym, ◌∙◌, arith}
use lib.IntN.{ℤ, pos, ◌+ℤ◌}
use Rattle.std.proofs.lemmas.Int.{ints, clamps}
use Rattle.std.specs.List.{filter}
use Rattle.finite_sums.specs.Sums.{total}
use Rattle.finite_sums.specs.Maps.{Text}
use Rattle.finite_sums.proofs.Totals.{total-append, total-plus}
use Rattle.envelope_cells.specs.Budget.{Budget, categories_of, expense}
use Rattle.envelope_cells.specs.declared.groups.BudgetGroup.{BudgetGroup}
use Rattle.envelope_cells.specs.Cells.{rolled, taken, carried_before, buffered_before, leftover_before, leftover, taken_from, last_month_overspent, all_budgeted, total_spent, to_budget_before, money_before}
use Rattle.envelope_cells.specs.Laws.{MoneyIsKept}

-- what is not taken goes on
pub rolled_and_taken : (b : Bool) (z : ℤ) → rolled b z +ℤ taken b z ≡ z
rolled_and_taken true z = omega (arith, ints)
rolled_and_taken false z = omega (arith, ints, clamps)

pub total_same : {X : Type 0} (f g : X → ℤ) (xs : List X) → ((x : X) → f x ≡ g x) → total f xs ≡ total g xs
total_same f g [] h = refl
total_same f g (x ∷ xs) h = omega (arith, ints, total_same f g xs h, h x)

pub total_zero : {X : Type 0} (xs : List X) → total (λ (x : X). pos 0) xs ≡ pos 0
total_zero [] = refl
total_zero (x ∷ xs) = omega (arith, ints, total_zero xs)

-- the leftovers of the month before month n, added up
abbrev pub all_left_before : Budget → ℕ → ℤ
all_left_before b n = total (λ c. leftover_before b c n) (expense b)

-- the leftovers of a month, category by category added up
pub leftovers_next : (b : Budget) (m : ℕ) → all_left_before b (suc m) +ℤ last_month_overspent b m ≡ (all_budgeted b m +ℤ total_spent b m) +ℤ all_left_before b m
leftovers_next b m =
    sym (total-plus (λ c. leftover b c m) (λ c. taken_from b c m) (expense b))
    ∙ total_same (λ c. leftover b c m +ℤ taken_from b c m) (λ c. (b.budgeted c m +ℤ b.category_sum c m) +ℤ leftover_before b c m) (expense b) (λ c. omega (arith, ints, rolled_and_taken (carried_before b c m) (leftover_before b c m)))
    ∙ total-plus (λ c. b.budgeted c m +ℤ b.category_sum c m) (λ c. leftover_before b c m) (expense b)
    ∙ ap (λ z. z +ℤ all_left_before b m) (total-plus (λ c. b.budgeted c m) (λ c. b.category_sum c m) (expense b))

-- the categories are those of income and those of expenses
pub split : (f : Text → ℤ) (gs : List BudgetGroup) → total f (categories_of gs) ≡ total f (categories_of (filter (λ g. g.is_income) gs)) +ℤ total f (categories_of (filter (λ g. not g.is_income) gs))
split f [] = omega (arith, ints)
split f (g ∷ gs) =
    elim g.is_income as (λ t. total f (g.categories ++ categories_of gs) ≡ total f (categories_of (cond t (g ∷ filter (λ g. g.is_income) gs) (filter (λ g. g.is_income) gs))) +ℤ total f (categories_of (cond (not t) (g ∷ filter (λ g. not g.is_income) gs) (filter (λ g. not g.is_income) gs)))) [
      | true ↦ omega (arith, ints, split f gs, total-append f g.categories (categories_of gs), total-append f g.categories (categories_of (filter (λ g. g.is_income) gs)))
      | false ↦ omega (arith, ints, split f gs, total-append f g.categories (categories_of gs), total-append f g.categories (categories_of (filter (λ g. not g.is_income) gs)))
    ]

pub money_before_is : (b : Budget) (n : ℕ) → (to_budget_before b n +ℤ buffered_before b n) +ℤ all_left_before b n ≡ money_before b n
money_before_is b zero = omega (arith, ints, total_zero (expense b))
money_before_is b (suc m) = omega (arith, ints, money_before_is b m, leftovers_next b m, split (λ c. b.category_sum c m) b.groups)

pub money_is_kept_lem : MoneyIsKept
money_is_kept_lem b m = money_before_is b (suc m)
