-- The text of a timestamp is ASCII, and no byte of it or of that of a number needs an escape.
use Rattle.std.proofs.Common.{◌≡◌, ℕ, suc, ◌<◌, ◌^◌, Bool, true, false, not, ◌&&◌, List, [], ◌∷◌, ◌++◌, ℤ, pos, negsuc, refl, ap, sym, ◌∙◌, arith, append_assoc, IsUtf8}
use Rattle.std.specs.Prelude.{codes, nat_lt}
use Rattle.std.specs.Fmt.{decimal, signed_decimal}
use Rattle.std.specs.Str.Parse.{AllDigits}
use Rattle.std.proofs.lemmas.Fmt.{decimal_is_IsNumeral}
use Rattle.std.proofs.lemmas.Str.Parse.{digit_from_value}
use lib.Signed.{mag}
use Rattle.field_values.specs.Value.{HoldsNumber, value_text}
use Rattle.field_values.specs.declared.value.Value.TheVariants.{Number}
use Rattle.field_values.proofs.Numbers.{number_small}
use Rattle.std.specs.List.{list_all}
use Rattle.std.specs.Str.{IsAscii}
use Rattle.std.proofs.lemmas.Bool.{and_parts, ne_eqb}
use Rattle.std.proofs.lemmas.Bool.Decides.{nat_tests}
use Rattle.std.proofs.lemmas.Str.{IsUtf8-from_ascii}
use Rattle.std.proofs.lemmas.Str.Ascii.{IsAscii-nil, IsAscii-cons}
use Rattle.hybrid_clock.specs.declared.stamp.Stamp.{Stamp}
use Rattle.hybrid_clock.specs.Stamp.{IsStamp, stamp_text}
use Rattle.hybrid_clock.specs.Reading.{form, is_allowed}
use Rattle.hybrid_clock.proofs.Form.{Fits, fits}
use Rattle.hybrid_clock.proofs.Writing.{text_passes}
use Rattle.field_merge.specs.Escapes.{escaped, is_special}
use Rattle.field_merge.proofs.EscapeLemmas.{Fails, escaped-safe, no_special}

-- an ASCII byte that a part writes as itself
abbrev is_safe : ℕ → Bool
is_safe b = nat_lt b 128 && not (is_special b)

-- what the form allows at such a place is such a byte
safe_byte : (place b : ℕ) → is_safe place ≡ true → is_allowed place b ≡ true → (b < 128) × (is_special b ≡ false)
safe_byte place b safe allowed = (grind (arith, nat_tests), grind (arith, nat_tests))

safe_text : (places text : List ℕ) → list_all is_safe places ≡ true → Fits places text → IsAscii text × Fails is_special text
safe_text [] [] safe fit = (IsAscii-nil, tt)
safe_text [] (b ∷ text) safe fit = absurd fit
safe_text (p ∷ places) [] safe fit = absurd fit
safe_text (p ∷ places) (b ∷ text) safe fit =
    let both = and_parts (is_safe p) (list_all is_safe places) safe in
    let first = safe_byte p b both.0 fit.0 in
    let rest = safe_text places text both.1 fit.1 in
    (IsAscii-cons b text first.0 rest.0, (first.1, rest.1))

safe_stamp : (s : Stamp) → IsStamp s → IsAscii (stamp_text s) × Fails is_special (stamp_text s)
safe_stamp s valid = let p = text_passes s valid in safe_text form (stamp_text s) refl (fits (stamp_text s) p.long p.formed)

pub stamp_text_utf8 : (s : Stamp) → IsStamp s → IsUtf8 (stamp_text s)
stamp_text_utf8 s valid = IsUtf8-from_ascii (stamp_text s) (safe_stamp s valid).0

pub stamp_text_escaped : (s : Stamp) → IsStamp s → escaped (stamp_text s) ≡ stamp_text s
stamp_text_escaped s valid = escaped-safe (stamp_text s) (safe_stamp s valid).1

safe_digits : (ds : List ℕ) → AllDigits 10 ds → Fails is_special ds
safe_digits [] h = tt
safe_digits (c ∷ cs) h =
    let digit = digit_from_value c h.0 in
    (no_special c (omega arith) (ne_eqb c 92 (λ e. omega arith)), safe_digits cs h.1)

safe_number : (n : ℤ) → mag n < 2 ^ 63 → Fails is_special (signed_decimal n)
safe_number (pos n) small = safe_digits (decimal n) (decimal_is_IsNumeral n (omega arith)).0.1
safe_number (negsuc n) small = (refl, safe_digits (decimal (suc n)) (decimal_is_IsNumeral (suc n) (omega arith)).0.1)

number_escaped : (n : ℤ) → HoldsNumber n → escaped (value_text (Number n)) ≡ codes "N:" ++ signed_decimal n
number_escaped n h = escaped-safe (codes "N:" ++ signed_decimal n) (refl, (refl, safe_number n (number_small n h)))

-- a number that is written behind a text
pub number_pushed : (old digits : List ℕ) (n : ℤ) → HoldsNumber n → digits ≡ signed_decimal n → (old ++ codes "N:") ++ digits ≡ old ++ escaped (value_text (Number n))
number_pushed old digits n h e =
    append_assoc old (codes "N:") digits ∙ ap (λ t. old ++ (codes "N:" ++ t)) e ∙ ap (λ t. old ++ t) (sym (number_escaped n h))
