-- Values and their texts.
use Rattle.std.specs.Prelude.{◌≡◌, ℕ, List, ◌++◌, drop, ◌&&◌, if◌then◌else◌, nat_eq, nat_le, Option, None, Some, ℤ, pos, neg_ℤ, ◌≤ℤ◌, unsigned_abs, codes}
use Rattle.std.specs.Fmt.{signed_decimal}
use Rattle.std.specs.List.{starts_with}
use Rattle.std.specs.Str.{bytes_eq}
use Rattle.std.specs.Str.Parse.{signed_digits_value}
use Rattle.field_values.specs.declared.value.Value.{Value}
use Rattle.field_values.specs.declared.value.Value.TheVariants.{Null, Number, Text, Other}

-- the largest number that a value may hold: 2 to the 53 less 1
abbrev pub largest_number : ℕ
largest_number = 9_007_199_254_740_991

-- a number that a value may hold: it is so near to 0 that each such whole number has a 64-bit float of its own
pub record HoldsNumber (n : ℤ) : Type 0 where
  pub low : neg_ℤ (pos largest_number) ≤ℤ n
  pub high : n ≤ℤ pos largest_number

-- the text of a value
abbrev pub value_text : Value → List ℕ
value_text Null = codes "0:"
value_text (Number n) = codes "N:" ++ signed_decimal n
value_text (Text t) = codes "S:" ++ t
value_text (Other t) = t

-- the text is that of no null, no number that a value may hold and no text
pub record IsOtherText (text : List ℕ) : Type 0 where
  pub no_null : text ≡ codes "0:" → ⊥
  pub no_number : (n : ℤ) → HoldsNumber n → text ≡ codes "N:" ++ signed_decimal n → ⊥
  pub no_text : (t : List ℕ) → text ≡ codes "S:" ++ t → ⊥

-- a number is in its range, and a text that is kept unread is of no other form
abbrev pub IsValue : Value → Type 0
IsValue Null = Unit {0}
IsValue (Number n) = HoldsNumber n
IsValue (Text t) = Unit {0}
IsValue (Other t) = IsOtherText t

-- a value that holds a text, which takes memory: neither null nor a number
abbrev pub KeepsText : Value → Type 0
KeepsText Null = ⊥
KeepsText (Number n) = ⊥
KeepsText (Text t) = Unit {0}
KeepsText (Other t) = Unit {0}

-- the number that the digits write, where it may be held and its decimal text is these very digits:
-- so no plus, no leading zero, no minus before 0
abbrev pub number_of : List ℕ → Option ℤ
number_of digits = let n = signed_digits_value 10 digits in
    if nat_le (unsigned_abs n) largest_number && bytes_eq (signed_decimal n) digits then Some n else None

-- the number, or the whole text unread
abbrev pub number_or_other : List ℕ → Option ℤ → Value
number_or_other text None = Other text
number_or_other text (Some n) = Number n

-- the text is that of the number; or it is the text of no number that a value may hold
abbrev pub IsNumberText : List ℕ → Option ℤ → Type 0
IsNumberText digits (Some n) = HoldsNumber n × (digits ≡ signed_decimal n)
IsNumberText digits None = (n : ℤ) → HoldsNumber n → digits ≡ signed_decimal n → ⊥

-- the value that a text is of: any text is that of a value
unfoldable pub value_of : List ℕ → Value
value_of text =
    if bytes_eq text (codes "0:") then Null
    else (if starts_with nat_eq text (codes "S:") then Text (drop 2 text)
    else (if starts_with nat_eq text (codes "N:") then number_or_other text (number_of (drop 2 text))
    else Other text))

-- each value is read back from its text
abbrev pub ValuesReadBack : Type 0
ValuesReadBack = (v : Value) → IsValue v → value_of (value_text v) ≡ v

-- each text is written back from its value
abbrev pub TextsWriteBack : Type 0
TextsWriteBack = (text : List ℕ) → IsValue (value_of text) × (value_text (value_of text) ≡ text)
