-- Which texts are tries, what they hold, and the first fault of the others.
use Rattle.std.specs.Prelude.{◌≡◌, ℕ, zero, suc, ◌-◌, ◌^◌, ◌&&◌, ◌||◌, List, [], ◌∷◌, Bool, true, false, Option, Some, None, ℤ, pos, neg_ℤ, int_le, int_lt, bytes_eq, option_and_then, if◌then◌else◌}
use Rattle.std.specs.Int.{w32, cast_unsigned}
use Rattle.serde_json.specs.Data.{Data, object, Members, no_members, member}
use Rattle.serde_json.specs.Find.{get, as_number, as_i64}
use Rattle.serde_json.specs.Read.{read}
use Rattle.minute_trie.specs.declared.key.Digit.{Digit}
use Rattle.minute_trie.specs.declared.key.Digit.TheVariants.{Zero, One, Two}
use Rattle.minute_trie.specs.declared.read.TrieFault.{TrieFault}
use Rattle.minute_trie.specs.declared.read.TrieFault.TheVariants.{NotJson, BadNode, TooDeep, NoMemory}
use Rattle.minute_trie.specs.declared.trie.Trie.{Trie}
use Rattle.minute_trie.specs.Names.{child_name, hash_name}
use Rattle.minute_trie.specs.Held.{Held}
use Rattle.minute_trie.specs.Trie.{held}

-- a whole number of signed 32 bits
abbrev pub is_hash : Option ℤ → Bool
is_hash None = false
is_hash (Some z) = int_le (neg_ℤ (pos (2 ^ 31))) z && int_lt z (pos (2 ^ 31))

-- the whole number that a value is, where it is one of 64 bits
abbrev pub whole_number : Data → Option ℤ
whole_number d = option_and_then as_i64 (as_number d)

-- a member that a node may have: a child, or a hash
abbrev pub is_known : List ℕ → Data → Bool
is_known name d = bytes_eq name (child_name Zero) || bytes_eq name (child_name One) || bytes_eq name (child_name Two)
    || (bytes_eq name hash_name && is_hash (whole_number d))

-- has each member a name and a value that a node may have?
abbrev pub all_known : Members → Bool
all_known no_members = true
all_known (member name d ms) = is_known name d && all_known ms

-- an object that has no other members
abbrev pub is_node : Data → Bool
is_node (object ms) = all_known ms
is_node _ = false

-- the first of two faults that follow each other
abbrev pub or_else : Option TrieFault → Option TrieFault → Option TrieFault
or_else None next = next
or_else (Some f) next = Some f

-- the fault of a child, where the child is there
abbrev pub of_child : (Data → Option TrieFault) → Option Data → Option TrieFault
of_child f None = None
of_child f (Some d) = f d

-- the first fault depth first, a node before its children and they ascending, where so many levels may stand,
-- this one included: 17 at the root, whose depth is 0
abbrev pub first_fault : ℕ → Data → Option TrieFault
first_fault zero d = Some TooDeep
first_fault (suc n) d =
    if is_node d then or_else (of_child (first_fault n) (get (child_name Zero) d))
    (or_else (of_child (first_fault n) (get (child_name One) d)) (of_child (first_fault n) (get (child_name Two) d)))
    else Some (BadNode (16 - n))

-- why what a text was read as is no trie; where the text is no JSON, there is no value
abbrev pub fault_of_value : Option Data → Option TrieFault
fault_of_value None = Some NotJson
fault_of_value (Some d) = first_fault 17 d

-- why a text is no trie, or none where it is one
abbrev pub fault_of_text : List ℕ → Option TrieFault
fault_of_text text = fault_of_value (read text)

-- a number that is a hash as its pattern of 32 bits, and 0 for any other and for none
abbrev pub hash_of_number : Option ℤ → ℕ
hash_of_number None = 0
hash_of_number (Some z) = if is_hash (Some z) then cast_unsigned w32 z else 0

-- the hash of a node, 0 where it has none
abbrev pub hash_of_node : Data → ℕ
hash_of_node d = hash_of_number (option_and_then whole_number (get hash_name d))

-- what a value holds at a string
abbrev pub held_at : List Digit → Data → Option ℕ
held_at [] d = Some (hash_of_node d)
held_at (c ∷ p) d = option_and_then (held_at p) (get (child_name c) d)

-- what the trie of a text holds
abbrev pub map_of_text : List ℕ → Held
map_of_text text p = option_and_then (held_at p) (read text)

-- the trie that a text is
pub record IsReadingOf (text : List ℕ) (trie : Trie) : Type 0 where
  pub right : fault_of_text text ≡ None
  pub same : held trie ≡ map_of_text text

-- a fault that is not for want of memory is the first one
abbrev pub IsTrieFault : Option TrieFault → TrieFault → Type 0
IsTrieFault first fault = (fault ≡ NoMemory → ⊥) → first ≡ Some fault
