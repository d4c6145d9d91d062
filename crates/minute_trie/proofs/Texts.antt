-- The text of a node, member by member.
use Rattle.std.proofs.Common.{◌≡◌, ℕ, zero, suc, ◌-◌, List, [], ◌∷◌, ◌++◌, Some, Box, codes, refl, sym, ap, ◌∙◌, append_assoc, arith}
use Rattle.std.proofs.Math.Path.{fun_ext}
use Rattle.std.specs.declared.alloc.Global.{Global}
use Rattle.minute_trie.specs.declared.node.Node.{Node, out-Node}
use Rattle.minute_trie.specs.declared.key.Digit.{Digit}
use Rattle.minute_trie.specs.declared.key.Digit.TheVariants.{Zero, One, Two}
use Rattle.minute_trie.specs.Held.{Held, at_node, at_below, after, Child}
use Rattle.minute_trie.specs.Names.{child_name}
use Rattle.minute_trie.specs.Json.{key_text, child_text, members_text, map_text}
use Rattle.minute_trie.proofs.Nodes.{at_open}

abbrev pub member_of : ℕ → Digit → Held → List ℕ
member_of n d g = child_text d (map_text n g) (g [])

joined : (x y z a b c d : List ℕ) → b ≡ a ++ x → c ≡ b ++ y → d ≡ c ++ z → d ≡ a ++ (x ++ (y ++ z))
joined x y z a b c d e f g = g ∙ ap (λ t. t ++ z) (f ∙ ap (λ t. t ++ y) e) ∙ (simp append_assoc)

-- a node's three members, one after the other
pub members : (digits : ℕ) (node : Node) (a b c d : List ℕ) → (digits ≡ 0 → ⊥) →
    b ≡ a ++ member_of (digits - 1) Zero (at_below (out-Node node).zero) →
    c ≡ b ++ member_of (digits - 1) One (at_below (out-Node node).one) →
    d ≡ c ++ member_of (digits - 1) Two (at_below (out-Node node).two) →
    d ≡ a ++ members_text digits (at_node node)
unfolding members_text
members zero node a b c d some e f g = absurd (some refl)
members (suc n) node a b c d some e f g =
    let less : suc n - 1 ≡ n = omega arith in
    let x : b ≡ a ++ member_of n Zero (after Zero (at_node node)) = e ∙ ap (λ k. a ++ member_of k Zero (at_below (out-Node node).zero)) less ∙ ap (λ h. a ++ member_of n Zero h) (fun_ext (λ p. sym (at_open node (Zero ∷ p)))) in
    let y : c ≡ b ++ member_of n One (after One (at_node node)) = f ∙ ap (λ k. b ++ member_of k One (at_below (out-Node node).one)) less ∙ ap (λ h. b ++ member_of n One h) (fun_ext (λ p. sym (at_open node (One ∷ p)))) in
    let z : d ≡ c ++ member_of n Two (after Two (at_node node)) = g ∙ ap (λ k. c ++ member_of k Two (at_below (out-Node node).two)) less ∙ ap (λ h. c ++ member_of n Two h) (fun_ext (λ p. sym (at_open node (Two ∷ p)))) in
    joined (member_of n Zero (after Zero (at_node node))) (member_of n One (after One (at_node node))) (member_of n Two (after Two (at_node node))) a b c d x y z

-- the member of a child that is there
pub member_there : (digits : ℕ) (d : Digit) (node : Node) → child_text d (map_text digits (at_node node)) (at_node node []) ≡ key_text (child_name d) ++ (map_text digits (at_node node) ++ codes ",")
member_there digits d node = ap (child_text d (map_text digits (at_node node))) (at_open node [])

pub child_written : (digits : ℕ) (d : Digit) (child : Child) (b : Box Node Global) (node : Node) (k a x y z : List ℕ) → child ≡ Some b → node ≡ b.value → k ≡ key_text (child_name d) →
    x ≡ a ++ k → y ≡ x ++ map_text digits (at_node node) → z ≡ y ++ codes "," → z ≡ a ++ child_text d (map_text digits (at_below child)) (at_below child [])
child_written digits d child b node k a x y z some is key e f g =
    joined k (map_text digits (at_node node)) (codes ",") a x y z e f g
    ∙ ap (λ t. a ++ t) (ap (λ t. t ++ (map_text digits (at_node node) ++ codes ",")) key ∙ sym (member_there digits d node) ∙ ap (λ n. child_text d (map_text digits (at_node n)) (at_node n [])) is
    ∙ sym (ap (λ c. child_text d (map_text digits (at_below c)) (at_below c [])) some))
