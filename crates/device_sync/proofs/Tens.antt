-- Numbers of some digits.
use Rattle.std.proofs.Common.{◌≡◌, ℕ, suc, ◌+◌, ◌*◌, ◌^◌, ◌<◌, ◌≤◌, arith}
use Rattle.std.proofs.Math.Nat.{pow-le-pow_right, pow-succ'}

pub few_digits : (n i : ℕ) → i < 18 → n < 10 ^ i → n < 10 ^ 17
few_digits n i p q =
    let positive : 0 < 10 = omega arith in
    let le : i ≤ 17 = omega arith in
    let top : 10 ^ i ≤ 10 ^ 17 = pow-le-pow_right positive le in
    omega arith

pub digit_more : (n i d : ℕ) → n < 10 ^ i → d < 10 → 10 * n + d < 10 ^ (i + 1)
digit_more n i d p q =
    let e : i + 1 ≡ suc i = omega arith in
    rw (e, pow-succ' 10 i) (omega arith)
