-- Two lists of entries that agree, before a string and from it on.
use Rattle.std.specs.Prelude.{◌≡◌, List, [], ◌∷◌, Bool, true, false, ◌&&◌, ◌||◌, not}
use Rattle.std.specs.List.{list_any}
use Rattle.minute_trie.specs.declared.key.Digit.{Digit}
use Rattle.minute_trie.specs.declared.key.Digit.TheVariants.{Zero, One, Two}
use Rattle.minute_trie.specs.Key.{same_digit}
use Rattle.minute_trie.specs.Pruned.{Entry, lies_below, xor}
use Rattle.minute_trie.proofs.Pruning.{below}

-- two lists of entries of which the same strings are present, with the same hashes
pub record Agree (es fs : List Entry) : Type 0 where
  pub any : (p : List Digit) → list_any (lies_below p) es ≡ list_any (lies_below p) fs
  pub hash : (p : List Digit) → xor es p ≡ xor fs p

-- no string is lost
pub record Grows (es fs : List Entry) : Type 0 where
  pub any : (p : List Digit) → list_any (lies_below p) es ≡ true → list_any (lies_below p) fs ≡ true

-- the entries before s agree
abbrev pub AgreeBefore : List Digit → List Entry → List Entry → Type 0
AgreeBefore [] es fs = Unit {0}
AgreeBefore (Zero ∷ s) es fs = AgreeBefore s (below Zero es) (below Zero fs)
AgreeBefore (One ∷ s) es fs = Agree (below Zero es) (below Zero fs) × AgreeBefore s (below One es) (below One fs)
AgreeBefore (Two ∷ s) es fs = Agree (below Zero es) (below Zero fs) × Agree (below One es) (below One fs) × AgreeBefore s (below Two es) (below Two fs)

-- the entries from s on agree
abbrev pub AgreeFrom : List Digit → List Entry → List Entry → Type 0
AgreeFrom [] es fs = Agree es fs
AgreeFrom (Zero ∷ s) es fs = AgreeFrom s (below Zero es) (below Zero fs) × Agree (below One es) (below One fs) × Agree (below Two es) (below Two fs)
AgreeFrom (One ∷ s) es fs = AgreeFrom s (below One es) (below One fs) × Agree (below Two es) (below Two fs)
AgreeFrom (Two ∷ s) es fs = AgreeFrom s (below Two es) (below Two fs)

abbrev pub is_less : Digit → Digit → Bool
is_less Zero One = true
is_less Zero Two = true
is_less One Two = true
is_less c d = false

-- does the key come before the string, padded on the right with zeros?
abbrev pub precedes : List Digit → List Digit → Bool
precedes key [] = false
precedes [] (d ∷ s) = false
precedes (c ∷ key) (d ∷ s) = is_less c d || (same_digit c d && precedes key s)

abbrev pub before : List Digit → Entry → Bool
before s e = precedes e.0 s

abbrev pub not_before : List Digit → Entry → Bool
not_before s e = not (precedes e.0 s)
