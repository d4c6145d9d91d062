-- The steps of changes, added up.
use Rattle.std.proofs.Common.{◌≡◌, ℕ, ◌+◌, ◌-◌, ◌*◌, ◌≤◌, max, ap, subst, arith}
use Rattle.std.proofs.lemmas.Nat.{mul-le}
use Rattle.dirty_cells.specs.Stands.{based}
use Rattle.dirty_cells.specs.Steps.{month_cost}
use Rattle.dirty_cells.proofs.Covered.{based_cases}

-- of the months that were covered those that are computed anew are touched
pub touched_months_of : (first end n from touched o0 o1 low : ℕ) → (o0, o1) ≡ based (first, end) n → o1 - low ≤ o1 - max o0 from → touched ≤ from → o1 - low ≤ end - max first touched
touched_months_of first end n from touched o0 o1 low e size h =
    based_cases first end n (λ r. (o0, o1) ≡ r → o1 - low ≤ end - max first touched)
    (λ some same. omega (arith, ap (λ r. r.0) same, ap (λ r. r.1) same, size, h))
    (λ none same. omega (arith, ap (λ r. r.0) same, ap (λ r. r.1) same, size))
    e

sum_up : (s0 s1 s2 n a b c : ℕ) → s1 ≤ s0 + 7 * n → a ≤ b → s2 ≤ s1 + a + c → s2 ≤ s0 + (16 * n + 2 * (b + c))
sum_up s0 s1 s2 n a b c follow most cost = omega (arith, follow, most, cost)

dearer : (c c1 q q1 : ℕ) → c ≤ c1 → q ≤ q1 → month_cost c q ≤ month_cost c1 q1
dearer c c1 q q1 h l = omega (arith, h, l)

pub within_bound : (s0 s1 s2 n c c1 q q1 x x1 k y w : ℕ) → s1 ≤ s0 + 7 * n → c ≤ c1 → q ≤ q1 → x ≤ x1 → y ≡ w → s2 ≤ s1 + month_cost c q * x + k * y → s2 ≤ s0 + (16 * n + 2 * (month_cost c1 q1 * x1 + k * w))
within_bound s0 s1 s2 n c c1 q q1 x x1 k y w follow few_c few_q few_x e cost =
    sum_up s0 s1 s2 n (month_cost c q * x) (month_cost c1 q1 * x1) (k * w) follow (mul-le (month_cost c q) x (month_cost c1 q1) x1 (dearer c c1 q q1 few_c few_q) few_x)
    (subst (λ z. s2 ≤ s1 + month_cost c q * x + k * z) e cost)
