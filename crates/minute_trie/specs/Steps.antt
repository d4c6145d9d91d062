-- What the functions that read a trie tell each other.
use Rattle.std.specs.Prelude.{◌≡◌, ℕ, List, Option, None, option_and_then}
use Rattle.serde_json.specs.Data.{Data}
use Rattle.minute_trie.specs.declared.key.Digit.{Digit}
use Rattle.minute_trie.specs.declared.node.Node.{Node}
use Rattle.minute_trie.specs.Held.{at_node, at_below, Child}
use Rattle.minute_trie.specs.Faults.{first_fault, of_child, held_at}

-- a node holds what a value does, where so many levels may stand
pub record IsReading (levels : ℕ) (d : Data) (node : Node) : Type 0 where
  pub right : first_fault levels d ≡ None
  pub same : (p : List Digit) → at_node node p ≡ held_at p d

-- the same of a child that may be there
pub record IsReadingBelow (levels : ℕ) (d : Option Data) (child : Child) : Type 0 where
  pub right : of_child (first_fault levels) d ≡ None
  pub same : (p : List Digit) → at_below child p ≡ option_and_then (held_at p) d
