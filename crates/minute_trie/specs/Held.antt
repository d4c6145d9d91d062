-- What a tree of nodes holds at each string of digits.
use Rattle.std.specs.Prelude.{◌≡◌, ◌<◌, ◌^◌, ℕ, List, [], ◌∷◌, ◌++◌, length, Option, Some, None, Box}
use Rattle.std.specs.declared.alloc.Global.{Global}
use Rattle.minute_trie.specs.declared.node.Node.{Node, Node', Held-Node-zero, None', Some'}
use Rattle.minute_trie.specs.declared.key.Digit.{Digit}
use Rattle.minute_trie.specs.declared.key.Digit.TheVariants.{Zero, One, Two}

-- a map from strings of digits to hashes, each hash as its pattern of 32 bits
abbrev pub Held : Type 0
Held = List Digit → Option ℕ

-- what stands behind a digit
abbrev pub after : Digit → Held → Held
after d f p = f (d ∷ p)

-- the hash, or 0 where there is none
abbrev pub or_zero : Option ℕ → ℕ
or_zero None = 0
or_zero (Some h) = h

-- what stands at a string below a node, and below a child that may be there
abbrev mutual
  pub at_node : Node → List Digit → Option ℕ
  at_node (Node' hash zero one two) [] = Some hash
  at_node (Node' hash zero one two) (Zero ∷ p) = at_child zero p
  at_node (Node' hash zero one two) (One ∷ p) = at_child one p
  at_node (Node' hash zero one two) (Two ∷ p) = at_child two p

  pub at_child : Held-Node-zero → List Digit → Option ℕ
  at_child None' p = None
  at_child (Some' b n) p = at_node n p

-- a child as a node has it
abbrev pub Child : Type 0
Child = Option (Box Node Global)

-- what stands at a string below such a child
abbrev pub at_below : Child → List Digit → Option ℕ
at_below None p = None
at_below (Some b) p = at_node b.value p

-- a map as a trie holds one: a hash at the empty string, each of 32 bits, nothing behind a string that is not there,
-- and no string of more digits than this
pub record IsMap (digits : ℕ) (f : Held) : Type 0 where
  pub root : (h : ℕ) × (f [] ≡ Some h)
  pub fits : (p : List Digit) (h : ℕ) → f p ≡ Some h → h < 2 ^ 32
  pub closed : (p q : List Digit) → f p ≡ None → f (p ++ q) ≡ None
  pub short : (p : List Digit) → digits < length p → f p ≡ None
