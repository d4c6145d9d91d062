-- Which fault of a text that is no trie is the first.
use Rattle.std.specs.Prelude.{◌≡◌, ◌<◌, ◌≤◌, ◌⊎◌, List, [], ◌∷◌, length, Option, Some, None, true, false, option_and_then}
use Rattle.serde_json.specs.Data.{Data}
use Rattle.serde_json.specs.Find.{get}
use Rattle.minute_trie.specs.declared.key.Digit.{Digit}
use Rattle.minute_trie.specs.declared.read.TrieFault.{TrieFault}
use Rattle.minute_trie.specs.declared.read.TrieFault.TheVariants.{BadNode, TooDeep}
use Rattle.minute_trie.specs.Names.{child_name}
use Rattle.minute_trie.specs.Diff.{digit_value}
use Rattle.minute_trie.specs.Faults.{is_node, first_fault}

-- the value to which a string leads, child by child, where one stands there
abbrev pub value_at : List Digit → Data → Option Data
value_at [] d = Some d
value_at (c ∷ p) d = option_and_then (value_at p) (get (child_name c) d)

-- the one string is read before the other: it is a shorter front of it, or has the lesser digit where they part
abbrev pub IsBefore : List Digit → List Digit → Type 0
IsBefore q [] = ⊥
IsBefore [] (c ∷ p) = Unit {0}
IsBefore (b ∷ q) (c ∷ p) = (digit_value b < digit_value c) ⊎ ((b ≡ c) × IsBefore q p)

-- a value at this string is right: it is a node, and a trie has strings of that length
pub record IsRight (p : List Digit) (value : Data) : Type 0 where
  pub node : is_node value ≡ true
  pub depth : length p ≤ 16

-- the value at this string is the first in reading order that isn't right, and this is told of it: that it is no node, with its depth, or that it
-- stands at the depth 17, where no string of a trie leads
pub record IsFirstFault (d : Data) (f : TrieFault) : Type 0 where
  pub place : List Digit
  pub value : Data
  pub stands : value_at place d ≡ Some value
  pub told : ((f ≡ BadNode (length place)) × (is_node value ≡ false) × (length place ≤ 16)) ⊎ ((f ≡ TooDeep) × (length place ≡ 17))
  pub earlier : (q : List Digit) (v : Data) → IsBefore q place → value_at q d ≡ Some v → IsRight q v

-- where no fault is told each value is right, else the first one that isn't is
abbrev pub IsTold : Data → Option TrieFault → Type 0
IsTold d None = (q : List Digit) (v : Data) → value_at q d ≡ Some v → IsRight q v
IsTold d (Some f) = IsFirstFault d f

-- what is told of a value that was read from a text as a trie
abbrev pub FaultsAreFirst : Type 0
FaultsAreFirst = (d : Data) → IsTold d (first_fault 17 d)
