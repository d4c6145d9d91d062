-- A round of a sync: two sides exchange all that they hold from a minute on.
use Rattle.std.specs.Prelude.{◌≡◌, ℕ, ◌*◌, List, [], ◌∷◌, ◌++◌, filter, Option, Some, Bool, not, nat_lt}
use Rattle.std.specs.List.Sorted.{IsPermutation}
use Rattle.minute_trie.specs.declared.key.Digit.{Digit}
use Rattle.minute_trie.specs.Trie.{Pair, trie_of, ArePairs}
use Rattle.minute_trie.specs.Diff.{end_of_walk, difference}

-- does the pair stand before the minute?
abbrev pub is_before : ℕ → Pair → Bool
is_before minute p = nat_lt p.0 minute

-- does it stand in the minute or after it?
abbrev pub is_from : ℕ → Pair → Bool
is_from minute p = not (nat_lt p.0 minute)

-- one side before and after: it has got more pairs, none of them before the minute
pub record IsGrown (minute : ℕ) (old got new : List Pair) : Type 0 where
  pub all : IsPermutation (old ++ got) new
  pub before : IsPermutation (filter (is_before minute) old) (filter (is_before minute) new)

-- both sides have grown, and from the minute on they now have the same pairs
pub record IsRound (minute : ℕ) (mine got mine_now theirs taken theirs_now : List Pair) : Type 0 where
  pub mine_grown : IsGrown minute mine got mine_now
  pub theirs_grown : IsGrown minute theirs taken theirs_now
  pub level : IsPermutation (filter (is_from minute) mine_now) (filter (is_from minute) theirs_now)

-- p is the beginning of s, and s is longer
abbrev pub IsProperPrefix : List Digit → List Digit → Type 0
IsProperPrefix p s = (c : Digit) × ((r : List Digit) × (s ≡ p ++ c ∷ r))

-- what the two sides hold
abbrev pub Sides : Type 0
Sides = List Pair × List Pair

-- where the walk over the tries of both sides ends
abbrev pub end_of_sides : Sides → List Digit
end_of_sides s = end_of_walk (trie_of s.0) (trie_of s.1)

-- the moment that is told of the tries of both sides, or none where they have one hash at the root
abbrev pub difference_of_sides : Sides → Option ℕ
difference_of_sides s = difference (trie_of s.0) (trie_of s.1)

-- a round from the minute on whose moment is told of the sides before it
abbrev pub IsRoundOfSides : Sides → Sides → Type 0
IsRoundOfSides s t =
    (minute : ℕ) × (difference_of_sides s ≡ Some (minute * 60_000)) × (got : List Pair) × (taken : List Pair) × IsRound minute s.0 got t.0 s.1 taken t.1

-- sides that hold pairs, and such rounds one after the other: what the sides hold after each
abbrev pub AreRounds : Sides → List Sides → Type 0
AreRounds s [] = ArePairs s.0 × ArePairs s.1
AreRounds s (t ∷ rounds) = (ArePairs s.0 × ArePairs s.1) × IsRoundOfSides s t × AreRounds t rounds
