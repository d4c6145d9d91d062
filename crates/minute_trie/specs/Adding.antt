-- What adding a hash makes of any trie, also of one that is no list's.
use Rattle.std.specs.Prelude.{ℕ, bit_xor, is_some, List, [], ◌∷◌, Some, None, ◌&&◌, if◌then◌else◌}
use Rattle.minute_trie.specs.declared.key.Digit.{Digit}
use Rattle.minute_trie.specs.declared.key.Digit.TheVariants.{Zero, One, Two}
use Rattle.std.specs.Int.{w32, cast_unsigned}
use Rattle.minute_trie.specs.Key.{key, same_digit}
use Rattle.minute_trie.specs.Trie.{Pair}
use Rattle.minute_trie.specs.Held.{Held, after, or_zero}

-- the hash XORed into that of the root; a root that is not there is made
abbrev pub xored : ℕ → Held → Held
xored hash f [] = Some (bit_xor (or_zero (f [])) hash)
xored hash f (d ∷ p) = f (d ∷ p)

-- g in place of what stands behind the digit c
abbrev pub instead : Digit → Held → Held → Held
instead c g f [] = f []
instead c g f (d ∷ p) = if same_digit c d then g p else f (d ∷ p)

-- nothing behind 0 where 1 and 2 are both there
abbrev pub with_two_greatest : Held → Held
with_two_greatest f [] = f []
with_two_greatest f (Zero ∷ p) = if is_some (f (One ∷ [])) && is_some (f (Two ∷ [])) then None else f (Zero ∷ p)
with_two_greatest f (One ∷ p) = f (One ∷ p)
with_two_greatest f (Two ∷ p) = f (Two ∷ p)

-- the hash XORed in at each prefix of the key, where each node on the way keeps its two greatest children
abbrev pub added : List Digit → ℕ → Held → Held
added [] hash f = xored hash f
added (c ∷ key) hash f = with_two_greatest (instead c (added key hash (after c f)) (xored hash f))

-- one pair more
abbrev pub with_pair : Pair → Held → Held
with_pair p f = added (key p.0) (cast_unsigned w32 p.1) f
