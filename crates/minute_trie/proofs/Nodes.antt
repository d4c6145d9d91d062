-- The fields of a node and what it holds.
use Rattle.std.proofs.Common.{◌≡◌, ℕ, List, [], ◌∷◌, Option, Some, None, Bool, true, false, ◌&&◌, cond, is_some, refl, sym, ap, ap₂, ◌∙◌}
use Rattle.minute_trie.specs.declared.node.Node.{Node, Node', out-Node, roll-Node, None', Some'}
use Rattle.minute_trie.specs.declared.key.Digit.{Digit}
use Rattle.minute_trie.specs.declared.key.Digit.TheVariants.{Zero, One, Two}
use Rattle.minute_trie.specs.Held.{at_node, at_below, Child}
use Rattle.minute_trie.specs.Adding.{with_two_greatest}

abbrev pub at_fields : ℕ → Child → Child → Child → List Digit → Option ℕ
at_fields hash zero one two [] = Some hash
at_fields hash zero one two (Zero ∷ p) = at_below zero p
at_fields hash zero one two (One ∷ p) = at_below one p
at_fields hash zero one two (Two ∷ p) = at_below two p

pub at_open : (n : Node) (p : List Digit) → at_node n p ≡ at_fields (out-Node n).hash (out-Node n).zero (out-Node n).one (out-Node n).two p
unfolding out-Node denote.Hole.Carrier.out
at_open (Node' hash zero one two) [] = refl
at_open (Node' hash None' one two) (Zero ∷ p) = refl
at_open (Node' hash (Some' b n) one two) (Zero ∷ p) = refl
at_open (Node' hash zero None' two) (One ∷ p) = refl
at_open (Node' hash zero (Some' b n) two) (One ∷ p) = refl
at_open (Node' hash zero one None') (Two ∷ p) = refl
at_open (Node' hash zero one (Some' b n)) (Two ∷ p) = refl

pub at_rolled : (hash : ℕ) (zero one two : Child) (p : List Digit) → at_node (roll-Node record { hash = hash; zero = zero; one = one; two = two }) p ≡ at_fields hash zero one two p
unfolding roll-Node out-Node denote.Hole.Carrier.out denote.Hole.Carrier.roll
at_rolled hash zero one two [] = refl
at_rolled hash None one two (Zero ∷ p) = refl
at_rolled hash (Some b) one two (Zero ∷ p) = refl
at_rolled hash zero None two (One ∷ p) = refl
at_rolled hash zero (Some b) two (One ∷ p) = refl
at_rolled hash zero one None (Two ∷ p) = refl
at_rolled hash zero one (Some b) (Two ∷ p) = refl

-- a child is there where something stands at its head
pub there : (child : Child) → is_some (at_below child []) ≡ is_some child
there None = refl
there (Some b) = ap is_some (at_open b.value [])

pub both_there : (node : Node) → (is_some (at_node node (One ∷ [])) && is_some (at_node node (Two ∷ []))) ≡ (is_some (out-Node node).one && is_some (out-Node node).two)
both_there node = rw (at_open node (One ∷ []), at_open node (Two ∷ []), there (out-Node node).one, there (out-Node node).two) refl

-- a node of which the least child is dropped
pub dropped : (node : Node) → is_some (out-Node node).one ≡ true → is_some (out-Node node).two ≡ true → (p : List Digit) →
    at_node (roll-Node record { hash = (out-Node node).hash; zero = None; one = (out-Node node).one; two = (out-Node node).two }) p ≡ with_two_greatest (at_node node) p
dropped node one two p = at_rolled _ _ _ _ p ∙ at p where
  at : (p : List Digit) → at_fields (out-Node node).hash None (out-Node node).one (out-Node node).two p ≡ with_two_greatest (at_node node) p
  at [] = sym (at_open node [])
  at (Zero ∷ p) = sym (ap (λ b. cond b None (at_node node (Zero ∷ p))) (both_there node ∙ ap₂ (λ a b. a && b) one two))
  at (One ∷ p) = sym (at_open node (One ∷ p))
  at (Two ∷ p) = sym (at_open node (Two ∷ p))

pub undropped : (node : Node) → (is_some (out-Node node).one && is_some (out-Node node).two) ≡ false → (p : List Digit) → at_node node p ≡ with_two_greatest (at_node node) p
undropped node h [] = refl
undropped node h (Zero ∷ p) = sym (ap (λ b. cond b None (at_node node (Zero ∷ p))) (both_there node ∙ h))
undropped node h (One ∷ p) = refl
undropped node h (Two ∷ p) = refl

pub both_false : (a b : Bool) → b ≡ false → (a && b) ≡ false
both_false true b h = h
both_false false b h = refl

pub rolled_zero : (hash : ℕ) (zero one two : Child) → (out-Node (roll-Node record { hash = hash; zero = zero; one = one; two = two })).zero ≡ zero
unfolding roll-Node out-Node denote.Hole.Carrier.out denote.Hole.Carrier.roll
rolled_zero hash None one two = refl
rolled_zero hash (Some b) one two = refl

pub rolled_one : (hash : ℕ) (zero one two : Child) → (out-Node (roll-Node record { hash = hash; zero = zero; one = one; two = two })).one ≡ one
unfolding roll-Node out-Node denote.Hole.Carrier.out denote.Hole.Carrier.roll
rolled_one hash zero None two = refl
rolled_one hash zero (Some b) two = refl

pub rolled_two : (hash : ℕ) (zero one two : Child) → (out-Node (roll-Node record { hash = hash; zero = zero; one = one; two = two })).two ≡ two
unfolding roll-Node out-Node denote.Hole.Carrier.out denote.Hole.Carrier.roll
rolled_two hash zero one None = refl
rolled_two hash zero one (Some b) = refl

pub rolled_hash : (hash : ℕ) (zero one two : Child) → (out-Node (roll-Node record { hash = hash; zero = zero; one = one; two = two })).hash ≡ hash
unfolding roll-Node out-Node denote.Hole.Carrier.out denote.Hole.Carrier.roll
rolled_hash hash zero one two = refl
