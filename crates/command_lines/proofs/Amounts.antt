-- An amount and its text, and an id or none and its text.
use Rattle.std.proofs.Common.{◌≡◌, ◌≢◌, ◌∙◌, ℕ, suc, List, [], ◌∷◌, ◌<◌, ◌^◌, ℤ, pos, negsuc, neg_ℤ, arith, ap, sym, refl, length, true, false, Bool, ◌&&◌, ◌==◌, Option, Some, None, Result, Ok, cond, subst, w64, FitsSigned}
use Rattle.std.specs.Prelude.{codes, if◌then◌else◌, int_le}
use Rattle.std.specs.Fmt.{signed_decimal, decimal}
use Rattle.std.specs.Str.{bytes_eq}
use Rattle.std.specs.Str.Parse.{ParsesSigned, AllDigits, signed_digits_value, starts_with_minus, without_leading_plus}
use Rattle.std.proofs.lemmas.Fmt.{decimal_is_IsNumeral, parse-signed_decimal}
use Rattle.std.proofs.lemmas.Result.{Ok-from_Ok_iff}
use Rattle.std.proofs.lemmas.Str.Parse.{digit_from_value, numerals_by_value, tells_digits, parse_signed_minus}
use Rattle.std.proofs.lemmas.Slice.Eq.{bytes_eq-Decides}
use Rattle.std.proofs.lemmas.Bool.{and_parts, false≢true, ne_eqb}
use Rattle.std.proofs.lemmas.Int.{ints}
use Rattle.command_lines.specs.Forms.{is_amount, amount_of, id_or_none, id_of}
use Rattle.command_lines.specs.FormLaws.{id_text}

-- digits begin with no sign
no_plus : (ds : List ℕ) → 0 < length ds → AllDigits 10 ds → without_leading_plus ds ≡ ds
no_plus [] some d = absurd (omega arith)
no_plus (c ∷ cs) some d =
    let k = digit_from_value c d.0 in
    let plus : (c == 43) ≡ false = ne_eqb c 43 (λ e. omega arith) in
    rw plus

no_minus : (ds : List ℕ) → 0 < length ds → AllDigits 10 ds → starts_with_minus ds ≡ false
no_minus [] some d = absurd (omega arith)
no_minus (c ∷ cs) some d =
    let k = digit_from_value c d.0 in
    ne_eqb c 45 (λ e. omega arith)

value_of_digits : (n : ℕ) → n < 2 ^ 64 → signed_digits_value 10 (decimal n) ≡ pos n
value_of_digits n small =
    let k = decimal_is_IsNumeral n small in
    let minus = no_minus (decimal n) k.0.0 k.0.1 in
    let plus = no_plus (decimal n) k.0.0 k.0.1 in
    rw (minus, plus, k.1)

value_of_minus : (n : ℕ) → n < 2 ^ 64 → signed_digits_value 10 (45 ∷ decimal n) ≡ neg_ℤ (pos n)
value_of_minus n small = let k = decimal_is_IsNumeral n small in ap (λ m. neg_ℤ (pos m)) k.1

amount_within : (n : ℤ) → is_amount n ≡ true → (int_le (neg_ℤ (pos 9_223_372_036_854_775_808)) n ≡ true) × (int_le n (pos 9_223_372_036_854_775_807) ≡ true)
amount_within n h = and_parts (int_le (neg_ℤ (pos 9_223_372_036_854_775_808)) n) (int_le n (pos 9_223_372_036_854_775_807)) h

-- the text of an amount is read as the amount
pub reads_amount : {E : Type 0} (n : ℤ) (text : List ℕ) (r : Result ℤ E) → is_amount n ≡ true → signed_decimal n ≡ text → ParsesSigned w64 10 text r → r ≡ Ok n
reads_amount (pos n) text r h is p =
    let small = (amount_within (pos n) h).1 in
    let fits : FitsSigned w64 (pos n) = omega (arith, ints, small) in
    parse-signed_decimal w64 (pos n) text r fits (omega (arith, ints, small)) (sym is) p
reads_amount (negsuc n) text r h is p =
    let small = (amount_within (negsuc n) h).0 in
    let k = decimal_is_IsNumeral (suc n) (omega (arith, ints, small)) in
    let read = parse_signed_minus (numerals_by_value _ tells_digits) w64 (45 ∷ decimal (suc n)) r (subst (λ l. ParsesSigned w64 10 l r) (sym is) p) refl in
    Ok-from_Ok_iff r _ _ read (k.0.1, k.0.0, omega (arith, ints, k.1, small)) ∙ ap (λ m. Ok (neg_ℤ (pos m))) k.1

-- the text of an amount writes it
value_of_amount : (n : ℤ) → is_amount n ≡ true → signed_digits_value 10 (signed_decimal n) ≡ n
value_of_amount (pos n) h = value_of_digits n (omega (arith, ints, (amount_within (pos n) h).1))
value_of_amount (negsuc n) h = value_of_minus (suc n) (omega (arith, ints, (amount_within (negsuc n) h).0))

pub amount_back : (n : ℤ) → is_amount n ≡ true → amount_of (signed_decimal n) ≡ Some n
amount_back n h = by (signed_digits_value 10 (signed_decimal n)) (value_of_amount n h)
  where
    by : (m : ℤ) → m ≡ n → (if is_amount m && bytes_eq (signed_decimal m) (signed_decimal n) then Some m else None) ≡ Some n
    by m e = rw (e, h, (bytes_eq-Decides (signed_decimal n) (signed_decimal n)).1 refl) refl

-- a text that is read as an amount is its text
pub amount_written : (text : List ℕ) (n : ℤ) → amount_of text ≡ Some n → (is_amount n ≡ true) × (signed_decimal n ≡ text)
amount_written text n e = by (signed_digits_value 10 text) (is_amount (signed_digits_value 10 text) && bytes_eq (signed_decimal (signed_digits_value 10 text)) text) refl e
  where
    by : (m : ℤ) (tests : Bool) → (is_amount m && bytes_eq (signed_decimal m) text) ≡ tests → cond tests (Some m) None ≡ Some n → (is_amount n ≡ true) × (signed_decimal n ≡ text)
    by m true t found =
        let same : m ≡ n = cc in
        let both = and_parts (is_amount m) (bytes_eq (signed_decimal m) text) t in
        (ap is_amount (sym same) ∙ both.0, ap signed_decimal (sym same) ∙ (bytes_eq-Decides (signed_decimal m) text).0 both.1)
    by m false t found = absurd (cc)

pub id_back : (id : Option (List ℕ)) → id ≢ Some (codes "-") → id_or_none (id_text id) ≡ id
id_back None h = refl
id_back (Some id) h = by (bytes_eq id (codes "-")) refl
  where
    by : (t : Bool) → bytes_eq id (codes "-") ≡ t → (if t then None else Some id) ≡ Some id
    by true e = absurd (h (ap (λ x. Some x) ((bytes_eq-Decides id (codes "-")).0 e)))
    by false e = refl

pub id_written : (text : List ℕ) → (id_or_none text ≢ Some (codes "-")) × (id_text (id_or_none text) ≡ text)
id_written text = by (bytes_eq text (codes "-")) refl
  where
    by : (t : Bool) → bytes_eq text (codes "-") ≡ t → ((if t then None else Some text) ≢ Some (codes "-")) × (id_text (if t then None else Some text) ≡ text)
    by true e = (λ clash. cc, sym ((bytes_eq-Decides text (codes "-")).0 e))
    by false e = (λ is. let same : text ≡ codes "-" = cc in false≢true (sym e ∙ (bytes_eq-Decides text (codes "-")).1 same), refl)

pub id_of_back : (id : Option (List ℕ)) → id ≢ Some (codes "-") → id_of (id_text id) ≡ Some id
unfolding id_of
id_of_back id h = ap Some (id_back id h)

pub id_told : (text : List ℕ) (id : Option (List ℕ)) → id_of text ≡ Some id → (id ≢ Some (codes "-")) × (id_text id ≡ text)
unfolding id_of
id_told text id e = let same : id_or_none text ≡ id = cc in subst (λ (o : Option (List ℕ)). (o ≢ Some (codes "-")) × (id_text o ≡ text)) same (id_written text)
