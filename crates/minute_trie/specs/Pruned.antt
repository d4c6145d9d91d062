-- The pruned trie of a list of entries: what stands at a string of digits is asked of each string by itself.
use Rattle.std.specs.Prelude.{ℕ, zero, bit_xor, List, [], ◌∷◌, map, filter, length, Option, Some, None, Bool, true, false, ◌&&◌, ◌||◌, nat_le, if◌then◌else◌}
use Rattle.std.specs.List.{list_any, list_all}
use Rattle.minute_trie.specs.declared.key.Digit.{Digit}
use Rattle.minute_trie.specs.declared.key.Digit.TheVariants.{Zero, One, Two}
use Rattle.minute_trie.specs.Key.{same_digit}

-- a key, and a hash as its pattern of 32 bits
abbrev pub Entry : Type 0
Entry = List Digit × ℕ

-- does the key begin with p?
abbrev pub begins : List Digit → List Digit → Bool
begins key [] = true
begins [] (d ∷ p) = false
begins (c ∷ key) (d ∷ p) = same_digit c d && begins key p

-- does the entry's key begin with p?
abbrev pub lies_below : List Digit → Entry → Bool
lies_below p e = begins e.0 p

-- the XOR of numbers, 0 for none
abbrev pub xor_all : List ℕ → ℕ
xor_all [] = zero
xor_all (n ∷ ns) = bit_xor n (xor_all ns)

-- the hash of an entry
abbrev pub hash_of : Entry → ℕ
hash_of e = e.1

-- the XOR of the hashes of the entries below p
abbrev pub xor : List Entry → List Digit → ℕ
xor es p = xor_all (map hash_of (filter (lies_below p) es))

-- is it the string of no digits?
abbrev pub is_empty : List Digit → Bool
is_empty [] = true
is_empty (d ∷ p) = false

-- the empty string, and each that some key begins with
abbrev pub present : List Entry → List Digit → Bool
present es p = is_empty p || list_any (lies_below p) es

-- the prefixes of a string but the empty one
abbrev pub prefixes : List Digit → List (List Digit)
prefixes [] = []
prefixes (d ∷ p) = (d ∷ []) ∷ map (λ q. d ∷ q) (prefixes p)

-- the digits above a digit
abbrev pub above : Digit → List Digit
above Zero = One ∷ Two ∷ []
above One = Two ∷ []
above Two = []

-- the strings that differ from d ∷ p in the last digit alone and have a greater one there
abbrev pub greater_from : Digit → List Digit → List (List Digit)
greater_from d [] = map (λ e. e ∷ []) (above d)
greater_from d (e ∷ p) = map (λ q. d ∷ q) (greater_from e p)

-- the same of any string; the empty one has no last digit
abbrev pub greater : List Digit → List (List Digit)
greater [] = []
greater (d ∷ p) = greater_from d p

-- a string that is present, while at most one of those greater in the last digit is
abbrev pub stays : List Entry → List Digit → Bool
stays es p = present es p && nat_le (length (filter (present es) (greater p))) 1

-- each prefix stays: it is among the two greatest below its parent
abbrev pub kept : List Entry → List Digit → Bool
kept es p = list_all (stays es) (prefixes p)

-- what the pruned trie of the entries holds at p
abbrev pub pruned : List Entry → List Digit → Option ℕ
pruned es p = if kept es p then Some (xor es p) else None
