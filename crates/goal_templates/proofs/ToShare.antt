-- What there is to share out.
use Rattle.std.proofs.Common.{◌≡◌, ℕ, suc, ◌+◌, ◌*◌, ◌^◌, ◌<◌, ◌≤◌, Bool, true, false, not, List, [], ◌∷◌, unsigned_abs, to_z, of_z, refl, ap, arith}
use lib.IntN.{ℤ, pos, ◌+ℤ◌, ◌-ℤ◌}
use mir.Syntax.{w128}
use Rattle.std.proofs.lemmas.Int.{ints}
use Rattle.finite_sums.specs.Sums.{total, weight, only_if}
use Rattle.finite_sums.specs.Maps.{Text}
use Rattle.finite_sums.proofs.Totals.{total-plus}
use Rattle.book_rows.specs.declared.rows.Rows.{Rows}
use Rattle.book_rows.specs.Book.{HasSizes}
use Rattle.envelope_cells.specs.Budget.{Budget, categories, income, expense}
use Rattle.envelope_cells.specs.BudgetOf.{budget_of}
use Rattle.envelope_cells.specs.Cells.{rolled, carried_before, leftover_before, taken_from, last_month_overspent, all_budgeted}
use Rattle.envelope_cells.specs.Parts.{sums_before, weight_before}
use Rattle.envelope_cells.proofs.Lists.{total_within}
use Rattle.envelope_cells.proofs.Money.{rolled_and_taken, split, money_before_is}
use Rattle.envelope_cells.proofs.Parts.{moved_is, sums_small, weight_rises}
use Rattle.goal_templates.specs.declared.share.Asked.{Asked}
use Rattle.goal_templates.specs.Wanted.{carry}
use Rattle.goal_templates.specs.Allocation.{has_template, shared_money}
use Rattle.goal_templates.specs.Money.{came_in, left_out, money_from}
use Rattle.goal_templates.proofs.Sizes.{income_until, expense_until}
use Rattle.goal_templates.proofs.Wanting.{carry_small}

module _ (b : Budget) (m : ℕ) (xs : List Asked) where
  abbrev kept : Text → ℤ
  kept c = only_if (not (has_template xs c)) (b.budgeted c m)

  -- the parts of what expense categories take
  all_parts : (cs : List Text) → total (left_out b m xs) cs ≡ (total (λ c. sums_before b c m) cs -ℤ total (λ c. carry b m c) cs) -ℤ total kept cs
  all_parts [] = refl
  all_parts (c ∷ cs) = omega (arith, ints, all_parts cs)

  -- what is left goes on, or is taken
  all_rolled : (cs : List Text) → total (λ c. carry b m c) cs +ℤ total (λ c. taken_from b c m) cs ≡ total (λ c. leftover_before b c m) cs
  all_rolled [] = refl
  all_rolled (c ∷ cs) = omega (arith, ints, all_rolled cs, rolled_and_taken (carried_before b c m) (leftover_before b c m))

  -- the budgets with a template and those without one
  either : (t : Bool) (z : ℤ) → only_if t z +ℤ only_if (not t) z ≡ z
  either true z = omega (arith, ints)
  either false z = omega (arith, ints)

  all_budgets : (cs : List Text) → total (λ c. only_if (has_template xs c) (b.budgeted c m)) cs +ℤ total kept cs ≡ total (λ c. b.budgeted c m) cs
  all_budgets [] = refl
  all_budgets (c ∷ cs) = omega (arith, ints, all_budgets cs, either (has_template xs c) (b.budgeted c m))

  pub money_is : money_from b m xs ≡ shared_money b m xs
  money_is =
      let came : total (came_in b m) (income b) ≡ total (λ c. sums_before b c m) (income b) +ℤ total (λ c. b.category_sum c m) (income b) = total-plus (λ c. sums_before b c m) (λ c. b.category_sum c m) (income b) in
      omega (arith, ints, came, all_parts (expense b), all_rolled (expense b), all_budgets (expense b), split (λ c. sums_before b c m) b.groups, moved_is b m, money_before_is b m)

  -- how much each is
  pub came_small : (c : Text) → unsigned_abs (came_in b m c) ≤ weight_before b c (m + 1)
  came_small c = let e : m + 1 ≡ suc m = omega arith in rw e (sums_small b c (suc m))

  kept_small : (c : Text) → unsigned_abs (kept c) ≤ weight_before b c (m + 1)
  kept_small c = by (not (has_template xs c))
    where
      by : (t : Bool) → unsigned_abs (only_if t (b.budgeted c m)) ≤ weight_before b c (m + 1)
      by true = let e : m + 1 ≡ suc m = omega arith in rw e (omega arith)
      by false = omega arith

  pub out_small : (c : Text) → unsigned_abs (left_out b m xs c) ≤ 3 * weight_before b c (m + 1)
  out_small c = omega (arith, ints, sums_small b c m, carry_small b m c, kept_small c, weight_rises b c m (m + 1) (omega arith))

  -- where a category has no template
  pub out_from : (c : Text) (left budget : ℤ) → left ≡ sums_before b c m -ℤ carry b m c → budget ≡ b.budgeted c m → has_template xs c ≡ false → weight_before b c (m + 1) ≤ 2 ^ 118
      → to_z w128 (of_z w128 (left -ℤ budget)) ≡ left_out b m xs c
  out_from c left budget h k none small =
      let all : kept c ≡ b.budgeted c m = ap (λ t. only_if (not t) (b.budgeted c m)) none in
      omega (arith, ints, h, k, all, sums_small b c m, carry_small b m c, kept_small c, weight_rises b c m (m + 1) (omega arith), small)

pub weight_times : {X : Type 0} (n : ℕ) (w : X → ℕ) (xs : List X) → weight (λ x. n * w x) xs ≡ n * weight w xs
weight_times n w [] = omega arith
weight_times n w (x ∷ xs) = omega (arith, weight_times n w xs)

-- how much all are
pub all_came_small : (r : Rows) (m : ℕ) → m < 2760 → HasSizes r → unsigned_abs (total (came_in (budget_of r) m) (income (budget_of r))) ≤ 2 ^ 118
all_came_small r m h sizes =
    let b = budget_of r in
    omega (arith, total_within (came_in b m) (λ c. weight_before b c (m + 1)) (income b) (came_small b m []), income_until r m h sizes)

pub all_out_small : (r : Rows) (m : ℕ) (xs : List Asked) → m < 2760 → HasSizes r → unsigned_abs (total (left_out (budget_of r) m xs) (expense (budget_of r))) ≤ 3 * 2 ^ 118
all_out_small r m xs h sizes =
    let b = budget_of r in
    omega (arith, total_within (left_out b m xs) (λ c. 3 * weight_before b c (m + 1)) (expense b) (out_small b m xs), weight_times 3 (λ c. weight_before b c (m + 1)) (expense b), expense_until r m h sizes)
