-- What the laws say of the definitions that the contracts cite.
use Rattle.std.specs.Prelude.{◌≡◌, ◌≢◌, ◌↔◌, ◌<◌, ◌≤◌, ◌*◌, ◌+◌, ◌++◌, ◌⊎◌, ℕ, List, [], ◌∷◌, filter, length, Option, Some, None, true, false}
use Rattle.std.specs.Int.{w32, cast_unsigned}
use Rattle.std.specs.List.Sorted.{IsPermutation}
use Rattle.hybrid_clock.specs.declared.stamp.Stamp.{Stamp}
use Rattle.hybrid_clock.specs.Stamp.{IsStamp, stamp_text, window}
use Rattle.minute_trie.specs.declared.key.Digit.{Digit}
use Rattle.minute_trie.specs.declared.trie.Trie.{Trie}
use Rattle.minute_trie.specs.Key.{key}
use Rattle.minute_trie.specs.Murmur.{murmur}
use Rattle.minute_trie.specs.Pruned.{begins, present, kept}
use Rattle.minute_trie.specs.Held.{Held, IsMap}
use Rattle.minute_trie.specs.Trie.{Pair, stamp_pair, entries_of, trie_of, IsTrieOf, IsPair, ArePairs}
use Rattle.minute_trie.specs.Adding.{with_pair}
use Rattle.minute_trie.specs.Diff.{digit_value, end_of_walk, difference}
use Rattle.minute_trie.specs.Json.{trie_text}
use Rattle.minute_trie.specs.Faults.{fault_of_text, map_of_text, IsReadingOf}
use Rattle.minute_trie.specs.Rounds.{is_from, IsRound, IsProperPrefix, Sides, end_of_sides, difference_of_sides, IsRoundOfSides, AreRounds}

-- the order of a list changes nothing
pub record OrderIsFree : Type 0 where
  -- in what its trie holds
  pub same : (pairs others : List Pair) → IsPermutation pairs others → trie_of pairs ≡ trie_of others
  -- in which tries are its own
  pub trie : (pairs others : List Pair) (trie : Trie) → IsPermutation pairs others → IsTrieOf pairs trie → IsTrieOf others trie

-- a string that is present and not kept is not kept after further pairs
abbrev pub PrunedForGood : Type 0
PrunedForGood = (pairs more : List Pair) (p : List Digit) → present (entries_of pairs) p ≡ true → kept (entries_of pairs) p ≡ false →
    kept (entries_of (pairs ++ more)) p ≡ false

-- the number that digits write to the base 3, behind those that write n: the digit with the greatest worth comes first
abbrev pub number_behind : ℕ → List Digit → ℕ
number_behind n [] = n
number_behind n (d ∷ more) = number_behind (n * 3 + digit_value d) more

-- where a timestamp stands in a trie
pub record StampsArePlaced : Type 0 where
  -- its pair has the minute in which its time lies
  pub minute : (stamp : Stamp) → (60_000 * (stamp_pair stamp).0 ≤ stamp.millis) × (stamp.millis < 60_000 * ((stamp_pair stamp).0 + 1))
  -- and the hash of its text, as a pattern of 32 bits
  pub hash : (stamp : Stamp) → cast_unsigned w32 (stamp_pair stamp).1 ≡ murmur (stamp_text stamp)
  -- the key of a minute has sixteen digits, which write it to the base 3
  pub key : (minute : ℕ) → minute < window → (length (key minute) ≡ 16) × (number_behind 0 (key minute) ≡ minute)

-- each trie that there is holds a map of at most sixteen digits
pub record TriesAreMaps : Type 0 where
  -- what a timestamp gives is a pair
  pub of_stamp : (stamp : Stamp) → IsStamp stamp → IsPair (stamp_pair stamp)
  -- the trie of a list of pairs
  pub of_pairs : (pairs : List Pair) → ArePairs pairs → IsMap 16 (trie_of pairs)
  -- that of a text
  pub of_text : (text : List ℕ) → fault_of_text text ≡ None → IsMap 16 (map_of_text text)
  -- what one pair more makes of such a map
  pub added : (pair : Pair) (f : Held) → IsPair pair → IsMap 16 f → IsMap 16 (with_pair pair f)

-- the text of such a map is that of a trie, and reads back as it
pub record TextsReadBack : Type 0 where
  -- the text is that of a trie
  pub right : (f : Held) → IsMap 16 f → fault_of_text (trie_text f) ≡ None
  -- it is read as the map
  pub same : (f : Held) → IsMap 16 f → map_of_text (trie_text f) ≡ f
  -- so a trie that is read from the text of a list's trie is that list's
  pub pairs : (pairs : List Pair) (trie : Trie) → ArePairs pairs → IsReadingOf (trie_text (trie_of pairs)) trie → IsTrieOf pairs trie

-- both have a hash at p, and it is not the same
abbrev pub DifferAt : Held → Held → List Digit → Type 0
DifferAt f g p = (a : ℕ) × (b : ℕ) × (f p ≡ Some a) × (g p ≡ Some b) × (a ≢ b)

-- below p both have the same at each digit before d
abbrev pub AreSameBefore : Held → Held → List Digit → Digit → Type 0
AreSameBefore f g p d = (e : Digit) → digit_value e < digit_value d → f (p ++ e ∷ []) ≡ g (p ++ e ∷ [])

-- below p both have the same at each digit
abbrev pub AreSameBelow : Held → Held → List Digit → Type 0
AreSameBelow f g p = (e : Digit) → f (p ++ e ∷ []) ≡ g (p ++ e ∷ [])

-- at the first digit below p at which they haven't the same, one has none
abbrev pub IsOneSidedBelow : Held → Held → List Digit → Type 0
IsOneSidedBelow f g p =
    (d : Digit) × AreSameBefore f g p d × (f (p ++ d ∷ []) ≢ g (p ++ d ∷ [])) × ((f (p ++ d ∷ []) ≡ None) ⊎ (g (p ++ d ∷ []) ≡ None))

-- the string leads down to the first difference, or ends before it where it has so many digits
pub record LeadsDown (digits : ℕ) (f g : Held) (s : List Digit) : Type 0 where
  -- the two differ at each prefix of the string
  pub differs : (p q : List Digit) → s ≡ p ++ q → DifferAt f g p
  -- they have the same at each digit that was passed on the way
  pub passed : (p r : List Digit) (d : Digit) → s ≡ p ++ d ∷ r → AreSameBefore f g p d
  -- the string has all its digits, or no child differs, or one side alone has the first child that does
  pub ends : (length s ≡ digits) ⊎ (AreSameBelow f g s ⊎ IsOneSidedBelow f g s)

-- the moment of the first minute whose key begins with the string
abbrev pub IsMomentOf : List Digit → Option ℕ → Type 0
IsMomentOf s moment =
    (minute : ℕ) × (moment ≡ Some (minute * 60_000)) × (begins (key minute) s ≡ true) × ((other : ℕ) → begins (key other) s ≡ true → minute ≤ other)

-- the difference of two tries is found
pub record DifferencesAreFound : Type 0 where
  -- no moment is told exactly where the roots have one hash
  pub none : (f g : Held) → (difference f g ≡ None) ↔ (f [] ≡ g [])
  -- where they have two, the walk goes down to the first difference
  pub down : (f g : Held) → IsMap 16 f → IsMap 16 g → f [] ≢ g [] → LeadsDown 16 f g (end_of_walk f g)
  -- and the moment of the place where it ends is told
  pub moment : (f g : Held) → f [] ≢ g [] → IsMomentOf (end_of_walk f g) (difference f g)

-- rounds from the moment on that is told of two tries come to an end
pub record RoundsEnd : Type 0 where
  -- after such a round the tries have one hash at the root, or the walk ends at a proper prefix of where it ended before
  pub nearer : (s t : Sides) → ArePairs s.0 → ArePairs s.1 → ArePairs t.0 → ArePairs t.1 → IsRoundOfSides s t →
      (difference_of_sides t ≡ None) ⊎ IsProperPrefix (end_of_sides t) (end_of_sides s)
  -- a walk goes down by at most sixteen digits
  pub within : (f g : Held) → length (end_of_walk f g) ≤ 16
  -- so no more than seventeen such rounds follow one another
  pub few : (s : Sides) (rounds : List Sides) → AreRounds s rounds → length rounds ≤ 17

-- there is a round from any minute on
pub record RoundsAreMade : Type 0 where
  -- beside what both sides hold, each takes what the other alone holds from the minute on
  pub round : (minute : ℕ) (common mine theirs : List Pair) →
      let got = filter (is_from minute) theirs in let taken = filter (is_from minute) mine in
      IsRound minute (common ++ mine) got ((common ++ mine) ++ got) (common ++ theirs) taken ((common ++ theirs) ++ taken)
  -- what a side has then are pairs again
  pub pairs : (minute : ℕ) (held more : List Pair) → ArePairs held → ArePairs more → ArePairs (held ++ filter (is_from minute) more)
