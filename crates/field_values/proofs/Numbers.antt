-- Numbers and their texts.
use Rattle.std.proofs.Common.{◌≡◌, ◌∙◌, ℕ, suc, List, [], ◌∷◌, ◌≤◌, ◌<◌, ◌^◌, Result, Ok, ℤ, pos, negsuc, neg_ℤ, w64, FitsSigned, arith, ap, sym, subst, length, true, false, Bool, ◌&&◌, ◌==◌, Some, None}
use Rattle.std.specs.Prelude.{nat_le, unsigned_abs}
use Rattle.std.specs.Fmt.{signed_decimal, decimal}
use Rattle.std.specs.Str.{bytes_eq}
use Rattle.std.specs.Str.Parse.{ParsesSigned, AllDigits, signed_digits_value, starts_with_minus, without_leading_plus}
use Rattle.std.proofs.lemmas.Fmt.{parse-signed_decimal, decimal_is_IsNumeral}
use Rattle.std.proofs.lemmas.Str.Parse.{digit_from_value}
use Rattle.std.proofs.lemmas.Slice.Eq.{bytes_eq-Decides}
use Rattle.std.proofs.lemmas.Bool.{cond_both, and_parts, and_from, leb-true, le-leb, false≢true, ne_eqb}
use Rattle.std.proofs.lemmas.Int.{ints}
use lib.Signed.{mag}
use Rattle.field_values.specs.Value.{largest_number, HoldsNumber, IsNumberText, number_of}

pub number_fits : (n : ℤ) → HoldsNumber n → FitsSigned w64 n
number_fits n h = omega (arith, ints, h.low, h.high)

pub number_small : (n : ℤ) → HoldsNumber n → mag n < 2 ^ 63
number_small (pos n) h = omega (arith, ints, h.low, h.high)
number_small (negsuc n) h = omega (arith, ints, h.low, h.high)

-- the text of a number is read as the number
pub reads_number : {E : Type 0} (n : ℤ) (bs : List ℕ) (r : Result ℤ E) → HoldsNumber n → bs ≡ signed_decimal n → ParsesSigned w64 10 bs r → r ≡ Ok n
reads_number n bs r h e p = parse-signed_decimal w64 n bs r (number_fits n h) (number_small n h) e p

-- digits begin with no sign
no_plus : (ds : List ℕ) → 0 < length ds → AllDigits 10 ds → without_leading_plus ds ≡ ds
no_plus [] some d = absurd (omega arith)
no_plus (c ∷ cs) some d =
    let k = digit_from_value c d.0 in
    let plus : (c == 43) ≡ false = ne_eqb c 43 (λ e. omega arith) in
    rw plus

no_minus : (ds : List ℕ) → 0 < length ds → AllDigits 10 ds → starts_with_minus ds ≡ false
no_minus [] some d = absurd (omega arith)
no_minus (c ∷ cs) some d =
    let k = digit_from_value c d.0 in
    ne_eqb c 45 (λ e. omega arith)

-- the digits of a number write the number
value_of_decimal : (n : ℤ) → mag n < 2 ^ 63 → signed_digits_value 10 (signed_decimal n) ≡ n
value_of_decimal (pos n) small =
    let k = decimal_is_IsNumeral n (omega arith) in
    let minus = no_minus (decimal n) k.0.0 k.0.1 in
    let plus = no_plus (decimal n) k.0.0 k.0.1 in
    rw (minus, plus, k.1)
value_of_decimal (negsuc n) small =
    let k = decimal_is_IsNumeral (suc n) (omega arith) in
    ap (λ m. neg_ℤ (pos m)) k.1

held : (n : ℤ) → unsigned_abs n ≤ largest_number → HoldsNumber n
held (pos n) h = record { low = omega (arith, ints, h); high = omega (arith, ints, h) }
held (negsuc n) h = record { low = omega (arith, ints, h); high = omega (arith, ints, h) }

near : (n : ℤ) → HoldsNumber n → unsigned_abs n ≤ largest_number
near (pos n) h = omega (arith, ints, h.low, h.high)
near (negsuc n) h = omega (arith, ints, h.low, h.high)

-- `number_of` finds the number whose text the digits are
pub number_of_is : (digits : List ℕ) → IsNumberText digits (number_of digits)
number_of_is digits =
    let n = signed_digits_value 10 digits in
    let tests : Bool = nat_le (unsigned_abs n) largest_number && bytes_eq (signed_decimal n) digits in
    cond_both tests (Some n) None (IsNumberText digits)
    (λ e. let both = and_parts _ _ e in
    (held n (leb-true _ _ both.0), sym ((bytes_eq-Decides (signed_decimal n) digits).0 both.1)))
    (λ e m h is.
    let same : n ≡ m = ap (signed_digits_value 10) is ∙ value_of_decimal m (number_small m h) in
    let low : nat_le (unsigned_abs n) largest_number ≡ true = le-leb _ _ (near n (subst HoldsNumber (sym same) h)) in
    let written : signed_decimal n ≡ digits = ap signed_decimal same ∙ sym is in
    false≢true (sym e ∙ and_from _ _ low ((bytes_eq-Decides (signed_decimal n) digits).1 written)))
