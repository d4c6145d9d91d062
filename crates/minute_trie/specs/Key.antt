-- The key of a minute: its lowest sixteen digits to the base 3.
use Rattle.std.specs.Prelude.{ℕ, zero, suc, ◌/◌, ◌%◌, ◌^◌, List, [], ◌∷◌, map, Bool, true, false}
use Rattle.minute_trie.specs.declared.key.Digit.{Digit}
use Rattle.minute_trie.specs.declared.key.Digit.TheVariants.{Zero, One, Two}

-- a number below 3 as a digit
abbrev pub digit_of : ℕ → Digit
digit_of zero = Zero
digit_of (suc zero) = One
digit_of (suc (suc n)) = Two

-- the digit of a minute at the place with this worth
abbrev pub digit_at : ℕ → ℕ → Digit
digit_at minute place = digit_of (minute / place % 3)

-- the digit with the greatest worth comes first
unfoldable pub key : ℕ → List Digit
key minute = map (digit_at minute)
    (3 ^ 15 ∷ 3 ^ 14 ∷ 3 ^ 13 ∷ 3 ^ 12 ∷ 3 ^ 11 ∷ 3 ^ 10 ∷ 3 ^ 9 ∷ 3 ^ 8 ∷ 3 ^ 7 ∷ 3 ^ 6 ∷ 3 ^ 5 ∷ 3 ^ 4 ∷ 3 ^ 3 ∷ 3 ^ 2 ∷ 3 ∷ 1 ∷ [])

-- are the two one digit?
abbrev pub same_digit : Digit → Digit → Bool
same_digit Zero Zero = true
same_digit One One = true
same_digit Two Two = true
same_digit c d = false
