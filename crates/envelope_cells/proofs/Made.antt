-- What leftovers and months are made of.
use Rattle.std.proofs.Common.{◌≡◌, ℕ, ◌+◌, Bool, true, false, refl, ap, ◌∙◌, arith, add-one}
use lib.IntN.{ℤ, pos, ◌+ℤ◌, neg_ℤ}
use lib.Signed.{◌≤ℤ◌}
use Rattle.std.proofs.lemmas.Int.{ints, clamps}
use Rattle.finite_sums.specs.Maps.{Text}
use Rattle.envelope_cells.specs.Budget.{Budget}
use Rattle.envelope_cells.specs.Cells.{rolled, taken, leftover, taken_from, all_budgeted}
use Rattle.envelope_cells.specs.Laws.{LeftoversAreMade, OverspendingIsTaken, MonthsAreMade}
use Rattle.envelope_cells.proofs.Money.{rolled_and_taken}

-- by the flag and the leftover, what goes on and what is taken
rolled_left : (f : Bool) (z : ℤ) → pos 0 ≤ℤ z → rolled f z ≡ z
rolled_left true z h = refl
rolled_left false z h = omega (arith, ints, clamps)

rolled_over : (z : ℤ) → z ≤ℤ pos 0 → rolled false z ≡ pos 0
rolled_over z h = omega (arith, ints, clamps)

taken_left : (f : Bool) (z : ℤ) → pos 0 ≤ℤ z → taken f z ≡ pos 0
taken_left true z h = refl
taken_left false z h = omega (arith, ints, clamps)

taken_over : (z : ℤ) → z ≤ℤ pos 0 → taken false z ≡ z
taken_over z h = omega (arith, ints, clamps)

-- month m + 1 in the form that the recursions have
next : (b : Budget) (c : Text) (m : ℕ) → leftover b c (m + 1) ≡ (b.budgeted c (m + 1) +ℤ b.category_sum c (m + 1)) +ℤ rolled (b.carries c m) (leftover b c m)
next b c m = rw add-one refl

taken_next : (b : Budget) (c : Text) (m : ℕ) → taken_from b c (m + 1) ≡ taken (b.carries c m) (leftover b c m)
taken_next b c m = rw add-one refl

pub leftovers_are_made_lem : (b : Budget) (c : Text) → LeftoversAreMade b c
leftovers_are_made_lem b c = record {
  first = omega (arith, ints, clamps);
  left = λ m h. next b c m ∙ ap (λ z. (b.budgeted c (m + 1) +ℤ b.category_sum c (m + 1)) +ℤ z) (rolled_left (b.carries c m) (leftover b c m) h);
  flagged = λ m h. next b c m ∙ ap (λ f. (b.budgeted c (m + 1) +ℤ b.category_sum c (m + 1)) +ℤ rolled f (leftover b c m)) h;
  overspent = λ m h k. next b c m ∙ ap (λ f. (b.budgeted c (m + 1) +ℤ b.category_sum c (m + 1)) +ℤ rolled f (leftover b c m)) h ∙ omega (arith, ints, rolled_over (leftover b c m) k);
}

pub overspending_is_taken_lem : (b : Budget) (c : Text) → OverspendingIsTaken b c
overspending_is_taken_lem b c = record {
  first = refl;
  left = λ m h. taken_next b c m ∙ taken_left (b.carries c m) (leftover b c m) h;
  flagged = λ m h. taken_next b c m ∙ ap (λ f. taken f (leftover b c m)) h;
  overspent = λ m h k. taken_next b c m ∙ ap (λ f. taken f (leftover b c m)) h ∙ taken_over (leftover b c m) k;
  either = λ m. omega (arith, ints, next b c m, taken_next b c m, rolled_and_taken (b.carries c m) (leftover b c m));
}

back : (z : ℤ) → neg_ℤ z +ℤ z ≡ pos 0
back z = omega (arith, ints)

pub months_are_made_lem : (b : Budget) → MonthsAreMade b
months_are_made_lem b = record {
  first = refl;
  from_last = λ m. rw add-one refl;
  available = λ m. refl;
  overspent = λ m. refl;
  budgeted = λ m. back (all_budgeted b m);
  to_budget = λ m. refl;
}
