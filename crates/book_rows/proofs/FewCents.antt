-- The cents of a text are few.
use Rattle.std.proofs.Common.{◌≡◌, ℕ, suc, ◌+◌, ◌-◌, ◌*◌, ◌^◌, ◌<◌, ◌≤◌, Bool, true, false, cond, [], ◌∷◌, Option, Some, None, refl, sym, subst, arith}
use Rattle.std.specs.Prelude.{◌&&◌, ◌==◌, nat_lt}
use Rattle.std.specs.Char.{is_ascii_digit}
use Rattle.std.proofs.lemmas.Bool.{and_parts, ltb-true, leb-true}
use Rattle.std.proofs.Math.Nat.{pow-suc}
use Rattle.finite_sums.specs.Maps.{Text}
use Rattle.book_rows.specs.Amounts.{fraction, cents_from}
use Rattle.book_rows.proofs.Powers.{small_at}

none_some : {X P : Type 0} (x : X) → None ≡ Some x → P
none_some x h = absurd (clash h)
  where
    clash : None ≡ Some x → ⊥
    clash h = cc

some_is : {X : Type 0} (x y : X) → Some x ≡ Some y → x ≡ y
some_is x y h = cc

chosen : {X : Type 0} (b : Bool) (x : Option X) (n : X) → cond b x None ≡ Some n → (b ≡ true) × (x ≡ Some n)
chosen true x n h = (refl, h)
chosen false x n h = none_some n h

digit_small : (b : ℕ) → is_ascii_digit b ≡ true → b - 48 ≤ 9
digit_small b h = let p = and_parts _ _ h in omega (arith, leb-true b 57 p.1)

pub fraction_small : (whole : ℕ) (bs : Text) (n : ℕ) → whole < 10_000_000_000_000 → fraction whole bs ≡ Some n → n < 1_000_000_000_000_000
fraction_small whole [] n small h = none_some n h
fraction_small whole (p ∷ []) n small h = none_some n h
fraction_small whole (p ∷ a ∷ []) n small h =
    let c = chosen ((p == 46) && is_ascii_digit a) (Some (whole * 100 + (a - 48) * 10)) n h in
    let d = digit_small a (and_parts _ _ c.0).1 in
    let e = some_is _ _ c.1 in
    omega (arith, d, e, small)
fraction_small whole (p ∷ a ∷ b ∷ []) n small h =
    let c = chosen ((p == 46) && is_ascii_digit a && is_ascii_digit b) (Some (whole * 100 + (a - 48) * 10 + (b - 48))) n h in
    let q = and_parts _ _ c.0 in
    let r = and_parts _ _ q.0 in
    let d = digit_small a r.1 in
    let f = digit_small b q.1 in
    let e = some_is _ _ c.1 in
    omega (arith, d, f, e, small)
fraction_small whole (p ∷ a ∷ b ∷ c ∷ cs) n small h = none_some n h

-- with one digit more
longer : (whole digits b : ℕ) → whole < 10 ^ digits → b ≤ 9 → whole * 10 + b < 10 ^ (digits + 1)
longer whole digits b small d =
    let one : digits + 1 ≡ suc digits = omega arith in
    let p : 10 ^ suc digits ≡ 10 ^ digits * 10 = pow-suc 10 digits in
    subst (λ (k : ℕ). whole * 10 + b < 10 ^ k) (sym one) (omega (arith, p, small, d))

pub cents_small : (bs : Text) (whole digits n : ℕ) → whole < 10 ^ digits → digits ≤ 13 → cents_from whole digits bs ≡ Some n → n < 1_000_000_000_000_000
cents_small [] whole digits n small few h = by (digits == 0) h
  where
    by : (b : Bool) → cond b None (Some (whole * 100)) ≡ Some n → n < 1_000_000_000_000_000
    by true k = none_some n k
    by false k = let e = some_is _ _ k in omega (arith, e, small_at digits whole few small)
cents_small (b ∷ bs) whole digits n small few h = by (λ less most k. cents_small bs (whole * 10 + (b - 48)) (digits + 1) n less most k) (is_ascii_digit b) refl h
  where
    behind : (z : Bool) → cond z None (fraction whole (b ∷ bs)) ≡ Some n → n < 1_000_000_000_000_000
    behind true k = none_some n k
    behind false k = fraction_small whole (b ∷ bs) n (small_at digits whole few small) k

    by : (whole * 10 + (b - 48) < 10 ^ (digits + 1) → digits + 1 ≤ 13 → cents_from (whole * 10 + (b - 48)) (digits + 1) bs ≡ Some n → n < 1_000_000_000_000_000)
        → (d : Bool) → is_ascii_digit b ≡ d → cond d (cond (nat_lt digits 13) (cents_from (whole * 10 + (b - 48)) (digits + 1) bs) None) (cond (digits == 0) None (fraction whole (b ∷ bs))) ≡ Some n → n < 1_000_000_000_000_000
    by again true d k =
        let c = chosen (nat_lt digits 13) (cents_from (whole * 10 + (b - 48)) (digits + 1) bs) n k in
        let more = ltb-true digits 13 c.0 in
        again (longer whole digits (b - 48) small (digit_small b d)) (omega (arith, more)) c.1
    by again false d k = behind (digits == 0) k
