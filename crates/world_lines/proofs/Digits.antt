-- A number and its text.
use Rattle.std.proofs.Common.{◌≡◌, ℕ, List, ◌<◌, ◌≤◌, ◌^◌, arith, ap, sym, refl, ◌∙◌, true, false, Bool, ◌&&◌, Some, None, Result, Ok, cond, subst}
use Rattle.std.specs.Prelude.{nat_lt, if◌then◌else◌}
use Rattle.std.specs.Fmt.{decimal}
use Rattle.std.specs.Str.{bytes_eq}
use Rattle.std.specs.Str.Parse.{digits_value, ParsesUnsigned}
use Rattle.std.proofs.lemmas.Bool.{and_parts}
use Rattle.std.proofs.lemmas.Bool.Decides.{nat_tests}
use Rattle.std.proofs.lemmas.Fmt.{decimal_is_IsNumeral, parse-decimal}
use Rattle.std.proofs.lemmas.Slice.Eq.{bytes_eq-Decides}
use Rattle.world_lines.specs.Numbers.{number_of}

-- a text that is read as a number is its text
pub number_written : (limit n : ℕ) (text : List ℕ) → number_of limit text ≡ Some n → (n < limit) × (decimal n ≡ text)
number_written limit n text e = by (digits_value 10 text) (nat_lt (digits_value 10 text) limit && bytes_eq (decimal (digits_value 10 text)) text) refl e
  where
    by : (m : ℕ) (tests : Bool) → (nat_lt m limit && bytes_eq (decimal m) text) ≡ tests → cond tests (Some m) None ≡ Some n → (n < limit) × (decimal n ≡ text)
    by m true t found =
        let same : m ≡ n = cc in
        let both = and_parts (nat_lt m limit) (bytes_eq (decimal m) text) t in
        let less : m < limit = grind (arith, nat_tests, both.0) in
        (subst (λ (k : ℕ). k < limit) same less, ap decimal (sym same) ∙ (bytes_eq-Decides (decimal m) text).0 both.1)
    by m false t found = absurd (cc)

-- the text of a number is read as it
pub number_back : (limit n : ℕ) (text : List ℕ) → limit ≤ 2 ^ 64 → n < limit → decimal n ≡ text → number_of limit text ≡ Some n
number_back limit n text small less is =
    let k = decimal_is_IsNumeral n (omega arith) in
    by (digits_value 10 text) (ap (digits_value 10) (sym is) ∙ k.1)
  where
    by : (m : ℕ) → m ≡ n → (if nat_lt m limit && bytes_eq (decimal m) text then Some m else None) ≡ Some n
    by m e =
        let lt : nat_lt n limit ≡ true = grind (arith, nat_tests) in
        rw (e, lt, (bytes_eq-Decides (decimal n) text).1 is) refl

-- what doesn't parse is no number
pub no_number : {E : Type 0} (bits n : ℕ) (text : List ℕ) (r : Result ℕ E) → bits ≤ 64 → ParsesUnsigned bits 10 text r → number_of (2 ^ bits) text ≡ Some n → 2 ^ bits ≤ 2 ^ 64 → r ≡ Ok n
no_number bits n text r small p e wide = let w = number_written (2 ^ bits) n text e in parse-decimal bits n text r w.0 (omega (arith, w.0, wide)) (sym w.1) p
