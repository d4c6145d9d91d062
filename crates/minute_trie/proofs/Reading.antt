-- The node of a value, from those of its children.
use Rattle.std.proofs.Common.{◌≡◌, ℕ, zero, suc, ◌-◌, List, [], ◌∷◌, Some, true, refl, ap, ◌∙◌, arith}
use Rattle.serde_json.specs.Data.{Data}
use Rattle.serde_json.specs.Find.{get}
use Rattle.minute_trie.specs.declared.node.Node.{roll-Node}
use Rattle.minute_trie.specs.declared.key.Digit.{Digit}
use Rattle.minute_trie.specs.declared.key.Digit.TheVariants.{Zero, One, Two}
use Rattle.minute_trie.specs.Held.{Child}
use Rattle.minute_trie.specs.Names.{child_name}
use Rattle.minute_trie.specs.Faults.{is_node, hash_of_node, held_at}
use Rattle.minute_trie.specs.Steps.{IsReading, IsReadingBelow}
use Rattle.minute_trie.proofs.Nodes.{at_rolled, at_fields}

pub reading : (levels : ℕ) (d : Data) (hash : ℕ) (zero one two : Child) → (levels ≡ 0 → ⊥) → is_node d ≡ true →
    IsReadingBelow (levels - 1) (get (child_name Zero) d) zero → IsReadingBelow (levels - 1) (get (child_name One) d) one → IsReadingBelow (levels - 1) (get (child_name Two) d) two →
    hash ≡ hash_of_node d → IsReading levels d (roll-Node record { hash = hash; zero = zero; one = one; two = two })
reading zero d hash zero' one two some node a b c h = absurd (some refl)
reading (suc n) d hash zero' one two some node a b c h =
    let less : suc n - 1 ≡ n = omega arith in
    let a' = rw less at a.right in
    let b' = rw less at b.right in
    let c' = rw less at c.right in
    record { right = rw (node, a', b', c') refl; same = λ p. at_rolled hash zero' one two p ∙ at p }
  where
    at : (p : List Digit) → at_fields hash zero' one two p ≡ held_at p d
    at [] = ap Some h
    at (Zero ∷ p) = a.same p
    at (One ∷ p) = b.same p
    at (Two ∷ p) = c.same p
