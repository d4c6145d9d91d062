-- Numbers and the digits that write them.
use Rattle.std.proofs.Common.{◌≡◌, ℕ, ◌+◌, ◌-◌, ◌*◌, ◌/◌, ◌%◌, ◌<◌, ◌≤◌, true, arith, ◌∙◌, ap, inl, inr}
use Rattle.std.proofs.lemmas.Bool.{cond-true, cond-false, cases_Bool, and_from, le-leb}
use Rattle.std.proofs.lemmas.Bool.Decides.{nat_tests}
use Rattle.std.specs.Char.{is_ascii_digit}
use Rattle.hybrid_clock.specs.Stamp.{hex_digit}
use Rattle.hybrid_clock.specs.Reading.{is_allowed, hex_value}

-- a decimal digit
pub record IsDigit (b : ℕ) : Type 0 where
  pub low : 48 ≤ b
  pub high : b ≤ 57

pub digit_from : (b : ℕ) → is_allowed 48 b ≡ true → IsDigit b
digit_from b h = let p : (48 ≤ b) × (b ≤ 57) = grind (arith, nat_tests) in record { low = p.0; high = p.1 }

pub digit_is : (n : ℕ) → n < 10 → is_allowed 48 (48 + n) ≡ true
digit_is n h = and_from _ _ (le-leb 48 (48 + n) (omega arith)) (le-leb (48 + n) 57 (omega arith))

-- the digits of a number that is made of digits
pub two_digits : (a b n : ℕ) → IsDigit a → IsDigit b → n ≡ 10 * (a - 48) + (b - 48) → (48 + n / 10 ≡ a) × (48 + n % 10 ≡ b)
two_digits a b n p q e = (omega arith, omega arith)

pub three_digits : (a b c n : ℕ) → IsDigit a → IsDigit b → IsDigit c → n ≡ 10 * (10 * (a - 48) + (b - 48)) + (c - 48) → (48 + n / 100 ≡ a) × (48 + n / 10 % 10 ≡ b) × (48 + n % 10 ≡ c)
three_digits a b c n p q r e = (omega arith, omega arith, omega arith)

pub four_digits : (a b c d n : ℕ) → IsDigit a → IsDigit b → IsDigit c → IsDigit d → n ≡ 10 * (10 * (10 * (a - 48) + (b - 48)) + (c - 48)) + (d - 48) → (48 + n / 1000 ≡ a) × (48 + n / 100 % 10 ≡ b) × (48 + n / 10 % 10 ≡ c) × (48 + n % 10 ≡ d)
four_digits a b c d n p q r s e = (omega arith, omega arith, omega arith, omega arith)

-- the number that its digits make
pub two_value : (n : ℕ) → 10 * (48 + n / 10 - 48) + (48 + n % 10 - 48) ≡ n
two_value n = omega arith

pub three_value : (n : ℕ) → 10 * (10 * (48 + n / 100 - 48) + (48 + n / 10 % 10 - 48)) + (48 + n % 10 - 48) ≡ n
three_value n = omega arith

pub four_value : (n : ℕ) → 10 * (10 * (10 * (48 + n / 1000 - 48) + (48 + n / 100 % 10 - 48)) + (48 + n / 10 % 10 - 48)) + (48 + n % 10 - 48) ≡ n
four_value n = omega arith

-- a hexadecimal digit and its value
pub record IsHex (b : ℕ) : Type 0 where
  pub bound : hex_value b < 16
  pub back : hex_digit (hex_value b) ≡ b

pub hex_from : (b : ℕ) → is_allowed 88 b ≡ true → IsHex b
hex_from b h = elim (cases_Bool (is_ascii_digit b)) [
  | inl t ↦ (let p : (48 ≤ b) × (b ≤ 57) = grind (arith, nat_tests) in
      let value : hex_value b ≡ b - 48 = cond-true (is_ascii_digit b) (b - 48) (b - 55) t in
      record { bound = omega (arith, value, p.0, p.1); back = rw value (grind (arith, nat_tests)) })
  | inr f ↦ (let p : (65 ≤ b) × (b ≤ 70) = grind (arith, nat_tests) in
      let value : hex_value b ≡ b - 55 = cond-false (is_ascii_digit b) (b - 48) (b - 55) f in
      record { bound = omega (arith, value, p.0, p.1); back = rw value (grind (arith, nat_tests)) })
]

pub hex_is : (n : ℕ) → n < 16 → is_allowed 88 (hex_digit n) ≡ true
hex_is n h = grind (arith, nat_tests)

pub hex_value-digit : (n : ℕ) → n < 16 → hex_value (hex_digit n) ≡ n
hex_value-digit n h = grind (arith, nat_tests)

pub hex_digits : (a b c d n : ℕ) → IsHex a → IsHex b → IsHex c → IsHex d → n ≡ 4096 * hex_value a + 256 * hex_value b + 16 * hex_value c + hex_value d → (hex_digit (n / 4096) ≡ a) × (hex_digit (n / 256 % 16) ≡ b) × (hex_digit (n / 16 % 16) ≡ c) × (hex_digit (n % 16) ≡ d)
hex_digits a b c d n p q r s e =
    let x = p.bound in let y = q.bound in let z = r.bound in let w = s.bound in
    let first : n / 4096 ≡ hex_value a = parts_0 (hex_value a) (hex_value b) (hex_value c) (hex_value d) n x y z w e in
    let second : n / 256 % 16 ≡ hex_value b = parts_1 (hex_value a) (hex_value b) (hex_value c) (hex_value d) n x y z w e in
    let third : n / 16 % 16 ≡ hex_value c = parts_2 (hex_value a) (hex_value b) (hex_value c) (hex_value d) n x y z w e in
    let fourth : n % 16 ≡ hex_value d = parts_3 (hex_value a) (hex_value b) (hex_value c) (hex_value d) n x y z w e in
    (ap hex_digit first ∙ p.back, ap hex_digit second ∙ q.back, ap hex_digit third ∙ r.back, ap hex_digit fourth ∙ s.back)
  where
    parts_0 : (a b c d n : ℕ) → a < 16 → b < 16 → c < 16 → d < 16 → n ≡ 4096 * a + 256 * b + 16 * c + d → n / 4096 ≡ a
    parts_0 a b c d n p q r s e = omega arith

    parts_1 : (a b c d n : ℕ) → a < 16 → b < 16 → c < 16 → d < 16 → n ≡ 4096 * a + 256 * b + 16 * c + d → n / 256 % 16 ≡ b
    parts_1 a b c d n p q r s e = omega arith

    parts_2 : (a b c d n : ℕ) → a < 16 → b < 16 → c < 16 → d < 16 → n ≡ 4096 * a + 256 * b + 16 * c + d → n / 16 % 16 ≡ c
    parts_2 a b c d n p q r s e = omega arith

    parts_3 : (a b c d n : ℕ) → a < 16 → b < 16 → c < 16 → d < 16 → n ≡ 4096 * a + 256 * b + 16 * c + d → n % 16 ≡ d
    parts_3 a b c d n p q r s e = omega arith

pub hex_counter : (n : ℕ) → n ≤ 65_535 → 4096 * hex_value (hex_digit (n / 4096)) + 256 * hex_value (hex_digit (n / 256 % 16)) + 16 * hex_value (hex_digit (n / 16 % 16)) + hex_value (hex_digit (n % 16)) ≡ n
hex_counter n h =
    let a = hex_value-digit (n / 4096) (omega arith) in
    let b = hex_value-digit (n / 256 % 16) (omega arith) in
    let c = hex_value-digit (n / 16 % 16) (omega arith) in
    let d = hex_value-digit (n % 16) (omega arith) in
    rw (a, b, c, d) (omega arith)

-- a number of milliseconds and its day, hour, minute and second
pub record IsSplit (n h m s z total : ℕ) : Type 0 where
  pub day : total / 86_400_000 ≡ n
  pub hour : total % 86_400_000 / 3_600_000 ≡ h
  pub minute : total % 86_400_000 / 60_000 % 60 ≡ m
  pub second : total % 86_400_000 / 1000 % 60 ≡ s
  pub milli : total % 86_400_000 % 1000 ≡ z

pub split : (n h m s z total : ℕ) → h < 24 → m < 60 → s < 60 → z < 1000 → total ≡ 86_400_000 * n + 3_600_000 * h + 60_000 * m + 1000 * s + z → IsSplit n h m s z total
split n h m s z total a b c d e = record { day = omega arith; hour = omega arith; minute = omega arith; second = omega arith; milli = omega arith }

pub joined : (n : ℕ) → 86_400_000 * (n / 86_400_000) + 3_600_000 * (n % 86_400_000 / 3_600_000) + 60_000 * (n % 86_400_000 / 60_000 % 60) + 1000 * (n % 86_400_000 / 1000 % 60) + n % 86_400_000 % 1000 ≡ n
joined n = omega arith
