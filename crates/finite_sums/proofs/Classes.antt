-- Sums over classes that do not overlap weigh no more than all addends together.
use Rattle.std.proofs.Common.{◌≡◌, ℕ, ◌+◌, ◌*◌, ◌≤◌, Bool, true, false, cond, List, [], ◌∷◌, unsigned_abs, zero, suc, arith}
use lib.IntN.{ℤ, ◌+ℤ◌}
use Rattle.std.proofs.lemmas.Int.{ints}
use Rattle.finite_sums.specs.Sums.{total, only_if, weight, hits}

abs_plus : (a b : ℤ) → unsigned_abs (a +ℤ b) ≤ unsigned_abs a + unsigned_abs b
abs_plus a b = omega (arith, ints)

weight-le : {K : Type 0} (f g : K → ℕ) (ks : List K) → ((k : K) → f k ≤ g k) → weight f ks ≤ weight g ks
weight-le f g [] h = omega arith
weight-le f g (k ∷ ks) h = omega (arith, h k, weight-le f g ks h)

weight-plus : {K : Type 0} (f g : K → ℕ) (ks : List K) → weight (λ k. f k + g k) ks ≡ weight f ks + weight g ks
weight-plus f g [] = omega arith
weight-plus f g (k ∷ ks) = omega (arith, weight-plus f g ks)

hits_by : (b : Bool) (n h w : ℕ) → w ≡ h * n → cond b n 0 + w ≡ (cond b 1 0 + h) * n
hits_by true n h w e = omega (arith, e)
hits_by false n h w e = omega (arith, e)

weight-hits : {K : Type 0} (p : K → Bool) (n : ℕ) (ks : List K) → weight (λ k. cond (p k) n 0) ks ≡ hits p ks * n
weight-hits p n [] = omega arith
weight-hits p n (k ∷ ks) = hits_by (p k) n (hits p ks) (weight (λ k. cond (p k) n 0) ks) (weight-hits p n ks)

times_one : (h n : ℕ) → h ≤ 1 → h * n ≤ n
times_one zero n p = omega arith
times_one (suc zero) n p = omega arith
times_one (suc (suc h)) n p = absurd (omega arith)

module _ {K X : Type 0} (t : K → X → Bool) (a : X → ℤ) where
  of : List X → K → ℤ
  of xs k = total (λ y. only_if (t k y) (a y)) xs

  split : (b : Bool) (z rest : ℤ) → unsigned_abs (only_if b z +ℤ rest) ≤ cond b (unsigned_abs z) 0 + unsigned_abs rest
  split true z rest = abs_plus z rest
  split false z rest = omega (arith, ints)

  -- where each addend is of at most one class
  pub no_overlap : (ks : List K) (xs : List X) → ((x : X) → hits (λ k. t k x) ks ≤ 1)
      → weight (λ k. unsigned_abs (total (λ y. only_if (t k y) (a y)) xs)) ks ≤ weight (λ x. unsigned_abs (a x)) xs
  no_overlap ks [] h = none ks
    where
      none : (ks : List K) → weight (λ k. unsigned_abs (total {X = X} (λ y. only_if (t k y) (a y)) [])) ks ≤ 0
      none [] = omega arith
      none (k ∷ ks) = omega (arith, none ks)
  no_overlap ks (x ∷ xs) h =
      let n = unsigned_abs (a x) in
      let big = λ (k : K). unsigned_abs (total (λ y. only_if (t k y) (a y)) (x ∷ xs)) in
      let own = λ (k : K). cond (t k x) n 0 in
      let rest = λ (k : K). unsigned_abs (total (λ y. only_if (t k y) (a y)) xs) in
      omega (arith, weight-le big (λ k. own k + rest k) ks (λ k. split (t k x) (a x) (total (λ y. only_if (t k y) (a y)) xs)), weight-plus own rest ks, weight-hits (λ k. t k x) n ks, times_one (hits (λ k. t k x) ks) n (h x), no_overlap ks xs h)
