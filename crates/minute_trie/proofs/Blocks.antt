-- The bytes of a block.
use Rattle.std.proofs.Common.{◌≡◌, ℕ, ◌*◌, ◌/◌, ◌%◌, ◌^◌, ◌<◌, ◌≤◌, List, [], ◌∷◌, length, drop, get_or, bit_xor, refl, arith}
use Rattle.std.proofs.lemmas.Nat.{xor_lt}
use Rattle.minute_trie.specs.Murmur.{xor_shifted, finalized, murmur, scrambled, mixed, word_of, tail_of, all_mixed}

pub tail_is : (xs : List ℕ) → length xs < 4 → word_of (get_or xs 0 0) (get_or xs 1 0) (get_or xs 2 0) 0 ≡ tail_of xs
tail_is [] h = refl
tail_is (a ∷ []) h = omega arith
tail_is (a ∷ b ∷ []) h = omega arith
tail_is (a ∷ b ∷ c ∷ []) h = omega arith
tail_is (a ∷ b ∷ c ∷ d ∷ xs) h = absurd (omega arith)

pub all_mixed_block : (h : ℕ) (xs : List ℕ) → 4 ≤ length xs →
    all_mixed (mixed h (word_of (get_or xs 0 0) (get_or xs 1 0) (get_or xs 2 0) (get_or xs 3 0))) (drop 4 xs) ≡ all_mixed h xs
all_mixed_block h [] l = absurd (omega arith)
all_mixed_block h (a ∷ []) l = absurd (omega arith)
all_mixed_block h (a ∷ b ∷ []) l = absurd (omega arith)
all_mixed_block h (a ∷ b ∷ c ∷ []) l = absurd (omega arith)
all_mixed_block h (a ∷ b ∷ c ∷ d ∷ xs) l = refl

pub all_mixed_tail : (h : ℕ) (xs : List ℕ) → length xs < 4 → all_mixed h xs ≡ bit_xor h (scrambled (tail_of xs))
all_mixed_tail h [] l = refl
all_mixed_tail h (a ∷ []) l = refl
all_mixed_tail h (a ∷ b ∷ []) l = refl
all_mixed_tail h (a ∷ b ∷ c ∷ []) l = refl
all_mixed_tail h (a ∷ b ∷ c ∷ d ∷ xs) l = absurd (omega arith)

spread_fits : (z : ℕ) → z < 2 ^ 32 → bit_xor z (z / 2 ^ 16) < 2 ^ 32
spread_fits z h = let k : z / 2 ^ 16 < 2 ^ 32 = omega arith in xor_lt 32 z (z / 2 ^ 16) h k

modulo_fits : (n : ℕ) → n % 2 ^ 32 < 2 ^ 32
modulo_fits n = omega arith

finalized_fits : (h : ℕ) → finalized h < 2 ^ 32
unfolding finalized xor_shifted
finalized_fits h = spread_fits _ (modulo_fits (xor_shifted (xor_shifted h 16 * 0x85ebca6b % 2 ^ 32) 13 * 0xc2b2ae35))

pub murmur_fits : (bytes : List ℕ) → murmur bytes < 2 ^ 32
murmur_fits bytes = finalized_fits _
