-- Decimal texts of amounts and of counts.
use Rattle.std.proofs.Common.{◌≡◌, ℕ, ◌+◌, ◌-◌, ◌*◌, ◌/◌, ◌%◌, ◌^◌, ◌<◌, ◌≤◌, Bool, true, false, cond, List, [], ◌∷◌, ◌++◌, length, Some, None, refl, sym, ap, ◌∙◌, arith}
use lib.IntN.{pos}
use Rattle.std.specs.Prelude.{◌&&◌, ◌==◌, nat_le}
use Rattle.std.specs.Fmt.{decimal}
use Rattle.std.specs.Str.{bytes_eq}
use Rattle.std.specs.Str.Parse.{AllDigits, digits_value, digits_value_after}
use Rattle.std.specs.Char.{digit_value}
use Rattle.std.proofs.lemmas.Fmt.{decimal_is_IsNumeral, length-decimal-le}
use Rattle.std.proofs.lemmas.Str.{digit_value_digit}
use Rattle.std.proofs.lemmas.Str.Parse.{digit_from_value}
use Rattle.std.proofs.lemmas.Slice.Eq.{bytes_eq-Decides}
use Rattle.std.proofs.lemmas.Bool.{and_parts, and_from, leb-true, le-leb, eqb-true}
use Rattle.finite_sums.specs.Maps.{Text}
use Rattle.book_rows.specs.Ids.{two_digits}
use Rattle.std.specs.Char.{is_ascii_digit}
use Rattle.goal_templates.specs.Amounts.{AreDigits, number, IsAmount, cents_text}
use Rattle.goal_templates.specs.Reading.{count_of}

digit_is : (c : ℕ) → digit_value c < 10 → is_ascii_digit c ≡ true
digit_is c h = let k = digit_from_value c h in and_from _ _ (le-leb 48 c (omega (arith, k))) (le-leb c 57 (omega (arith, k)))

pub are_digits : (ds : List ℕ) → AllDigits 10 ds → AreDigits ds
are_digits [] h = tt
are_digits (c ∷ cs) h = (digit_is c h.0, are_digits cs h.1)

same_number : (ds : List ℕ) (n : ℕ) → AllDigits 10 ds → number n ds ≡ digits_value_after 10 n ds
same_number [] n h = refl
same_number (c ∷ cs) n h =
    let k = digit_from_value c h.0 in
    let e : n * 10 + (c - 48) ≡ n * 10 + digit_value c = omega (arith, digit_value_digit c k) in
    ap (λ m. number m cs) e ∙ same_number cs (n * 10 + digit_value c) h.1

pub number_back : (n : ℕ) → n < 2 ^ 64 → number 0 (decimal n) ≡ n
number_back n small = let k = decimal_is_IsNumeral n small in same_number (decimal n) 0 k.0.1 ∙ k.1

last_digit : (n : ℕ) → n < 10 → is_ascii_digit (48 + n) ≡ true
last_digit n h = and_from _ _ (le-leb 48 (48 + n) (omega arith)) (le-leb (48 + n) 57 (omega arith))

-- cents are written as an amount
pub written_amount : (n : ℕ) → n < 10 ^ 15 → IsAmount (cents_text n) (pos n)
written_amount n small = by (n % 100 == 0) refl
  where
    whole : AllDigits 10 (decimal (n / 100))
    whole = (decimal_is_IsNumeral (n / 100) (omega arith)).0.1

    first : 0 < length (decimal (n / 100))
    first = (decimal_is_IsNumeral (n / 100) (omega arith)).0.0

    most : length (decimal (n / 100)) ≤ 13
    most = length-decimal-le 13 (n / 100) (omega arith) (omega arith) (omega arith)

    back : number 0 (decimal (n / 100)) ≡ n / 100
    back = number_back (n / 100) (omega arith)

    by : (b : Bool) → (n % 100 == 0) ≡ b → IsAmount (decimal (n / 100) ++ cond b [] (46 ∷ two_digits n)) (pos n)
    by true e =
        let none = eqb-true (n % 100) 0 e in
        record {
          whole = decimal (n / 100);
          cents = [];
          spelled = refl;
          digits = (are_digits (decimal (n / 100)) whole, tt);
          some = omega (arith, first);
          few = most;
          short = omega arith;
          value = ap pos (let w : n ≡ number 0 (decimal (n / 100)) * 100 + 0 = omega (arith, back, none) in w);
        }
    by false e = record {
      whole = decimal (n / 100);
      cents = two_digits n;
      spelled = refl;
      digits = (are_digits (decimal (n / 100)) whole, (last_digit (n / 10 % 10) (omega arith), (last_digit (n % 10) (omega arith), tt)));
      some = omega (arith, first);
      few = most;
      short = omega arith;
      value = ap pos (let w : n ≡ number 0 (decimal (n / 100)) * 100 + ((48 + n / 10 % 10 - 48) * 10 + (48 + n % 10 - 48)) = omega (arith, back) in w);
    }

-- counts
pub record IsFound (low high : ℕ) (t : Text) (n : ℕ) : Type 0 where
  pub text : t ≡ decimal n
  pub least : low ≤ n
  pub most : n ≤ high

pub count_found : (low high : ℕ) (t : Text) (n : ℕ) → count_of low high t ≡ Some n → IsFound low high t n
unfolding count_of
count_found low high t n h = by (digits_value 10 t) ((nat_le low (digits_value 10 t) && nat_le (digits_value 10 t) high) && bytes_eq (decimal (digits_value 10 t)) t) refl h
  where
    by : (m : ℕ) (tests : Bool) → ((nat_le low m && nat_le m high) && bytes_eq (decimal m) t) ≡ tests → cond tests (Some m) None ≡ Some n → IsFound low high t n
    by m true e k =
        let same : m ≡ n = cc in
        let both = and_parts (nat_le low m && nat_le m high) (bytes_eq (decimal m) t) e in
        let sides = and_parts (nat_le low m) (nat_le m high) both.0 in
        record {
          text = sym ((bytes_eq-Decides (decimal m) t).0 both.1) ∙ ap decimal same;
          least = omega (arith, leb-true low m sides.0, same);
          most = omega (arith, leb-true m high sides.1, same);
        }
    by m false e k = absurd (cc)

pub count_back : (low high n : ℕ) → low ≤ n → n ≤ high → n < 2 ^ 64 → count_of low high (decimal n) ≡ Some n
unfolding count_of
count_back low high n l h small = by (digits_value 10 (decimal n)) (decimal_is_IsNumeral n small).1
  where
    by : (m : ℕ) → m ≡ n → cond ((nat_le low m && nat_le m high) && bytes_eq (decimal m) (decimal n)) (Some m) None ≡ Some n
    by m e = rw (e, le-leb low n l, le-leb n high h, (bytes_eq-Decides (decimal n) (decimal n)).1 refl) refl
