-- Going back while the months carry over.
use Rattle.std.proofs.Common.{add-one, zero, ◌≡◌, ℕ, ◌+◌, ◌^◌, ◌≤◌, Bool, true, false, not, suc, unsigned_abs, refl, subst, ap, sym, ◌∙◌, arith}
use lib.IntN.{ℤ, pos, ◌+ℤ◌}
use Rattle.std.proofs.lemmas.Int.{ints}
use Rattle.finite_sums.specs.Maps.{Text}
use Rattle.envelope_cells.specs.Budget.{Budget}
use Rattle.envelope_cells.specs.Parts.{weight_before}
use Rattle.envelope_cells.specs.Cells.{carried_before}
use Rattle.tracking_budget.specs.declared.kept.Seen.{Seen}
use Rattle.tracking_budget.specs.Parts.{IsSeen}
use Rattle.tracking_budget.specs.Tracked.{own, kept, left_before, kept_in}

-- with what was added up so far, what is kept at month `at` is what is kept at month n, and there is room for what is left
pub record IsOnWay (b : Budget) (is_income : Bool) (c : Text) (n at : ℕ) (sum : ℤ) : Type 0 where
  pub within : at ≤ n
  pub whole : sum +ℤ kept_in b is_income c at ≡ kept_in b is_income c n
  pub room : unsigned_abs sum + weight_before b c at ≤ weight_before b c n

not_true : (t : Bool) → not t ≡ true → t ≡ false
not_true true h = absurd (cc)
not_true false h = refl

not_false : (t : Bool) → not t ≡ false → t ≡ true
not_false true h = refl
not_false false h = absurd (cc)

own_small : (is_income : Bool) (given sum : ℤ) → unsigned_abs (own is_income given sum) ≤ unsigned_abs given + unsigned_abs sum
own_small true given sum = omega (arith, ints)
own_small false given sum = omega (arith, ints)

module _ (b : Budget) (is_income : Bool) (c : Text) (n : ℕ) where
  pub starts : IsOnWay b is_income c n n (pos 0)
  starts = record { within = omega arith; whole = omega (arith, ints); room = omega (arith, ints) }

  -- nothing is kept from a month that doesn't carry over, nor before the first
  pub none_before : (z : ℤ) → IsOnWay b is_income c n 0 z → z ≡ kept_in b is_income c n
  none_before z w = omega (arith, ints, w.whole)

  pub none_kept : (k : ℕ) (z : ℤ) → b.carries c k ≡ false → IsOnWay b is_income c n (suc k) z → z ≡ kept_in b is_income c n
  none_kept k z h w =
      let zero : kept (b.carries c k) (left_before b is_income c (suc k)) ≡ pos 0 = ap (λ f. kept f (left_before b is_income c (suc k))) h in
      omega (arith, ints, w.whole, zero)

  pub goes_back : (k : ℕ) (z : ℤ) → b.carries c k ≡ true → IsOnWay b is_income c n (suc k) z → IsOnWay b is_income c n k (z +ℤ own is_income (b.budgeted c k) (b.category_sum c k))
  goes_back k z h w =
      let all : kept (b.carries c k) (left_before b is_income c (suc k)) ≡ left_before b is_income c (suc k) = ap (λ f. kept f (left_before b is_income c (suc k))) h in
      record {
        within = omega (arith, w.within);
        whole = omega (arith, ints, w.whole, all);
        room = omega (arith, ints, w.room, own_small is_income (b.budgeted c k) (b.category_sum c k));
      }

  -- the same of what was seen of month k
  pub ends_here : (k at : ℕ) (z : ℤ) (s : Seen) → at ≡ suc k → IsOnWay b is_income c n at z → IsSeen b c k s → not s.carries ≡ true → z ≡ kept_in b is_income c n
  ends_here k at z s one w is h = none_kept k z (sym is.carries ∙ not_true s.carries h) (subst (λ a. IsOnWay b is_income c n a z) one w)

  pub one_back : (k at : ℕ) (z y : ℤ) (s : Seen) → at ≡ suc k → IsOnWay b is_income c n at z → IsSeen b c k s → not s.carries ≡ false → y ≡ z +ℤ own is_income s.given s.sum → IsOnWay b is_income c n k y
  one_back k at z y s one w is h e =
      let same : y ≡ z +ℤ own is_income (b.budgeted c k) (b.category_sum c k) = e ∙ ap (λ g. z +ℤ own is_income g s.sum) is.given ∙ ap (λ x. z +ℤ own is_income (b.budgeted c k) x) is.sum in
      subst (IsOnWay b is_income c n k) (sym same) (goes_back k z (sym is.carries ∙ not_false s.carries h) (subst (λ a. IsOnWay b is_income c n a z) one w))

  pub sum_within : (k at : ℕ) (z : ℤ) (s : Seen) → at ≡ suc k → IsOnWay b is_income c n at z → IsSeen b c k s → weight_before b c n ≤ 2 ^ 120 → unsigned_abs s.sum ≤ 2 ^ 120
  sum_within k at z s one w is small =
      let v = subst (λ a. IsOnWay b is_income c n a z) one w in
      let room = v.room in
      omega (arith, room, small, ap unsigned_abs is.sum)

  pub later_within : (at : ℕ) (z : ℤ) → IsOnWay b is_income c n at z → weight_before b c n ≤ 2 ^ 120 → unsigned_abs z ≤ 2 ^ 120
  later_within at z w small = omega (arith, w.room, small)

-- what is left and what is kept stay within the weight
kept_less : (t : Bool) (z : ℤ) → unsigned_abs (kept t z) ≤ unsigned_abs z
kept_less true z = omega arith
kept_less false z = omega (arith, ints)

left_small : (b : Budget) (is_income : Bool) (c : Text) (n : ℕ) → unsigned_abs (left_before b is_income c n) ≤ weight_before b c n
left_small b is_income c zero = omega (arith, ints)
left_small b is_income c (suc k) =
    omega (arith, ints, left_small b is_income c k, own_small is_income (b.budgeted c k) (b.category_sum c k), kept_less (carried_before b c k) (left_before b is_income c k))

pub weight_next : (b : Budget) (c : Text) (m : ℕ) → weight_before b c (m + 1) ≡ weight_before b c m + (unsigned_abs (b.budgeted c m) + unsigned_abs (b.category_sum c m))
weight_next b c m = rw add-one refl

pub sum_now : (b : Budget) (c : Text) (m : ℕ) (z : ℤ) → z ≡ b.category_sum c m → weight_before b c (m + 1) ≤ 2 ^ 120 → unsigned_abs z ≤ 2 ^ 120
sum_now b c m z e h = omega (arith, weight_next b c m, h, ap unsigned_abs e)

pub kept_now : (b : Budget) (is_income : Bool) (c : Text) (m : ℕ) (z : ℤ) → z ≡ kept_in b is_income c m → weight_before b c (m + 1) ≤ 2 ^ 120 → unsigned_abs z ≤ 2 ^ 120
kept_now b is_income c m z e h = omega (arith, weight_next b c m, h, ap unsigned_abs e, kept_less (carried_before b c m) (left_before b is_income c m), left_small b is_income c m)

pub weight_now : (b : Budget) (c : Text) (m : ℕ) → weight_before b c (m + 1) ≤ 2 ^ 120 → weight_before b c m ≤ 2 ^ 120
weight_now b c m h = omega (arith, weight_next b c m, h)

pub add_one_left : (b : Budget) (is_income : Bool) (c : Text) (m : ℕ) → unsigned_abs (left_before b is_income c (suc m)) ≤ weight_before b c (m + 1)
add_one_left b is_income c m = omega (arith, weight_next b c m, left_small b is_income c (suc m))
