-- The trie of a list of pairs of a minute and a hash.
use Rattle.std.specs.Prelude.{◌≡◌, ◌<◌, ◌/◌, ℕ, ℤ, List, [], ◌∷◌, map, Bool, FitsSigned}
use Rattle.std.specs.Int.{w32, cast_signed, cast_unsigned}
use Rattle.hybrid_clock.specs.declared.stamp.Stamp.{Stamp}
use Rattle.hybrid_clock.specs.Stamp.{stamp_text, window}
use Rattle.minute_trie.specs.declared.trie.Trie.{Trie}
use Rattle.minute_trie.specs.Key.{key}
use Rattle.minute_trie.specs.Murmur.{murmur}
use Rattle.minute_trie.specs.Pruned.{Entry, pruned}
use Rattle.minute_trie.specs.Held.{Held, at_node}

-- a minute, and a hash as a signed number of 32 bits
abbrev pub Pair : Type 0
Pair = ℕ × ℤ

-- the pair of a timestamp: its minute, and the hash of its text
abbrev pub stamp_pair : Stamp → Pair
stamp_pair s = (s.millis / 60_000, cast_signed w32 (murmur (stamp_text s)))

-- the entry of a pair
abbrev pub entry_of : Pair → Entry
entry_of p = (key p.0, cast_unsigned w32 p.1)

-- the same of each pair of a list
abbrev pub entries_of : List Pair → List Entry
entries_of ps = map entry_of ps

-- what the trie of the pairs holds
abbrev pub trie_of : List Pair → Held
trie_of ps = pruned (entries_of ps)

-- what a trie holds
abbrev pub held : Trie → Held
held trie = at_node trie.root

-- did an insertion run out of memory?
abbrev pub is_spent : Trie → Bool
is_spent trie = trie.spent

-- a trie that holds what the trie of the pairs does
pub record IsTrieOf (pairs : List Pair) (trie : Trie) : Type 0 where
  pub same : held trie ≡ trie_of pairs

-- the minute is in the window of timestamps, and the hash has 32 bits
pub record IsPair (p : Pair) : Type 0 where
  pub within : p.0 < window
  pub fits : FitsSigned w32 p.1

-- a list of such pairs
abbrev pub ArePairs : List Pair → Type 0
ArePairs [] = Unit {0}
ArePairs (p ∷ ps) = IsPair p × ArePairs ps
