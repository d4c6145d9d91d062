-- Month by month, what is left of a category.
use Rattle.std.proofs.Common.{◌≡◌, ℕ, ◌+◌, ◌^◌, ◌<◌, ◌≤◌, suc, unsigned_abs, ap, ◌∙◌, arith, add-one}
use lib.IntN.{ℤ, ◌+ℤ◌}
use Rattle.finite_sums.specs.Maps.{Text}
use Rattle.envelope_cells.specs.Budget.{Budget}
use Rattle.envelope_cells.specs.Cells.{rolled, leftover_before}
use Rattle.envelope_cells.specs.Parts.{IsPast, IsMonth, sums_before, weight_before}
use Rattle.envelope_cells.specs.declared.part.Past.{Past}
use Rattle.envelope_cells.specs.declared.part.Month.{Month}
use Rattle.envelope_cells.proofs.Parts.{left_small, sums_small, weight_rises}

module _ (b : Budget) (c : Text) where
  pub left_next : (k : ℕ) (p : Past) (m : Month) (z : ℤ) → IsPast b c k p → IsMonth b c k m → z ≡ (m.budget +ℤ m.sum) +ℤ rolled p.carries p.left → z ≡ leftover_before b c (suc k)
  left_next k p m z past month e =
      let one = past.left in
      let two = past.carries in
      let three = month.sum in
      let four = month.budget in
      cc

  pub past_next : (k : ℕ) (p : Past) (m : Month) (q : Past) → IsPast b c k p → IsMonth b c k m → q.left ≡ (m.budget +ℤ m.sum) +ℤ rolled p.carries p.left → q.carries ≡ m.carries → q.moved ≡ p.moved +ℤ m.sum → IsPast b c (k + 1) q
  past_next k p m q past month left carries moved = record {
    left = rw add-one (left_next k p m q.left past month left);
    carries = rw add-one (carries ∙ month.carries);
    moved = rw add-one (moved ∙ ap (λ z. z +ℤ m.sum) past.moved ∙ ap (λ z. sums_before b c k +ℤ z) month.sum);
  }

  -- it stays small
  pub left_within : (k n : ℕ) (p : Past) → IsPast b c k p → k ≤ n → weight_before b c n ≤ 2 ^ 120 → unsigned_abs p.left ≤ 2 ^ 120
  left_within k n p past h small = omega (arith, ap unsigned_abs past.left, left_small b c k, weight_rises b c k n h, small)

  pub moved_within : (k n : ℕ) (p : Past) → IsPast b c k p → k ≤ n → weight_before b c n ≤ 2 ^ 120 → unsigned_abs p.moved ≤ 2 ^ 120
  moved_within k n p past h small = omega (arith, ap unsigned_abs past.moved, sums_small b c k, weight_rises b c k n h, small)

  pub sum_within : (k n : ℕ) (m : Month) → IsMonth b c k m → k < n → weight_before b c n ≤ 2 ^ 120 → unsigned_abs m.sum ≤ 2 ^ 120
  sum_within k n m month h small =
      let within : unsigned_abs (b.category_sum c k) ≤ weight_before b c (suc k) = omega arith in
      omega (arith, ap unsigned_abs month.sum, within, weight_rises b c (suc k) n (omega arith), small)
