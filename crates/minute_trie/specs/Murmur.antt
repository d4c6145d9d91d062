-- MurmurHash3 of a list of bytes: the variant x86 of 32 bits, with the seed 0. Sums and products are modulo 2 ^ 32.
use Rattle.std.specs.Prelude.{ℕ, zero, ◌+◌, ◌*◌, ◌/◌, ◌%◌, ◌^◌, List, [], ◌∷◌, length, bit_xor}
use Rattle.std.specs.Int.{w32, rotate_left}

-- a block before it is mixed in
unfoldable pub scrambled : ℕ → ℕ
scrambled k = rotate_left w32 (k * 0xcc9e2d51 % 2 ^ 32) 15 * 0x1b873593 % 2 ^ 32

-- the state once a block of four bytes is mixed in
unfoldable pub mixed : ℕ → ℕ → ℕ
mixed h k = (rotate_left w32 (bit_xor h (scrambled k)) 13 * 5 % 2 ^ 32 + 0xe6546b64) % 2 ^ 32

-- four bytes as a number, the least first
abbrev pub word_of : ℕ → ℕ → ℕ → ℕ → ℕ
word_of a b c d = a + 256 * (b + 256 * (c + 256 * d))

-- any bytes as a number, the least first
abbrev pub tail_of : List ℕ → ℕ
tail_of [] = zero
tail_of (b ∷ bs) = b + 256 * tail_of bs

-- the state once all bytes are mixed in: by blocks of four, and then up to three that are left
abbrev pub all_mixed : ℕ → List ℕ → ℕ
all_mixed h (a ∷ b ∷ c ∷ d ∷ rest) = all_mixed (mixed h (word_of a b c d)) rest
all_mixed h rest = bit_xor h (scrambled (tail_of rest))

-- a number XORed with itself shifted to the right by n bits
unfoldable pub xor_shifted : ℕ → ℕ → ℕ
xor_shifted h n = bit_xor h (h / 2 ^ n)

-- the finalization, which spreads the bits of the state
unfoldable pub finalized : ℕ → ℕ
finalized h = xor_shifted (xor_shifted (xor_shifted h 16 * 0x85ebca6b % 2 ^ 32) 13 * 0xc2b2ae35 % 2 ^ 32) 16

-- the hash of the bytes
abbrev pub murmur : List ℕ → ℕ
murmur bytes = finalized (bit_xor (all_mixed 0 bytes) (length bytes % 2 ^ 32))
