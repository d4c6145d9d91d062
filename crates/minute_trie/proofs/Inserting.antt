-- What an insertion below one child makes of a node.
use Rattle.std.proofs.Common.{◌≡◌, ℕ, true, ◌&&◌, cond, is_some, length, List, [], ◌∷◌, Some, None, bit_xor, Box, refl, sym, ap, ◌∙◌, arith}
use Rattle.std.proofs.Math.Path.{fun_ext}
use Rattle.std.specs.declared.alloc.Global.{Global}
use Rattle.minute_trie.specs.declared.node.Node.{Node, out-Node, roll-Node}
use Rattle.minute_trie.specs.declared.key.Digit.{Digit}
use Rattle.minute_trie.specs.declared.key.Digit.TheVariants.{Zero, One, Two}
use Rattle.minute_trie.specs.Pruned.{pruned}
use Rattle.minute_trie.specs.Held.{Held, at_node, at_below, after, or_zero, Child}
use Rattle.minute_trie.specs.Adding.{xored, instead, with_two_greatest, added}
use Rattle.minute_trie.proofs.Pruning.{pruned_zero, pruned_one, pruned_two}
use Rattle.minute_trie.proofs.Nodes.{at_open, at_rolled, at_fields}

here : (node : Node) (hash : ℕ) → Some (bit_xor (out-Node node).hash hash) ≡ xored hash (at_node node) []
here node hash = ap (λ o. Some (bit_xor (or_zero o) hash)) (sym (at_open node []))

pub insert_here : (node : Node) (hash : ℕ) (p : List Digit) →
    at_node (roll-Node record { hash = bit_xor (out-Node node).hash hash; zero = (out-Node node).zero; one = (out-Node node).one; two = (out-Node node).two }) p ≡ xored hash (at_node node) p
insert_here node hash p = at_rolled _ _ _ _ p ∙ at p where
  at : (p : List Digit) → at_fields (bit_xor (out-Node node).hash hash) (out-Node node).zero (out-Node node).one (out-Node node).two p ≡ xored hash (at_node node) p
  at [] = here node hash
  at (Zero ∷ p) = sym (at_open node (Zero ∷ p))
  at (One ∷ p) = sym (at_open node (One ∷ p))
  at (Two ∷ p) = sym (at_open node (Two ∷ p))

module _ (node : Node) (key : List Digit) (hash : ℕ) (child : Child) where
  pub laid_zero : ((p : List Digit) → at_below child p ≡ added key hash (at_below (out-Node node).zero) p) → (p : List Digit) →
      at_node (roll-Node record { hash = bit_xor (out-Node node).hash hash; zero = child; one = (out-Node node).one; two = (out-Node node).two }) p
      ≡ instead Zero (added key hash (after Zero (at_node node))) (xored hash (at_node node)) p
  laid_zero put p = at_rolled _ _ _ _ p ∙ at p where
    at : (p : List Digit) → at_fields (bit_xor (out-Node node).hash hash) child (out-Node node).one (out-Node node).two p ≡ instead Zero (added key hash (after Zero (at_node node))) (xored hash (at_node node)) p
    at [] = here node hash
    at (Zero ∷ p) = put p ∙ ap (λ f. added key hash f p) (fun_ext (λ q. sym (at_open node (Zero ∷ q))))
    at (One ∷ p) = sym (at_open node (One ∷ p))
    at (Two ∷ p) = sym (at_open node (Two ∷ p))

  pub laid_one : ((p : List Digit) → at_below child p ≡ added key hash (at_below (out-Node node).one) p) → (p : List Digit) →
      at_node (roll-Node record { hash = bit_xor (out-Node node).hash hash; zero = (out-Node node).zero; one = child; two = (out-Node node).two }) p
      ≡ instead One (added key hash (after One (at_node node))) (xored hash (at_node node)) p
  laid_one put p = at_rolled _ _ _ _ p ∙ at p where
    at : (p : List Digit) → at_fields (bit_xor (out-Node node).hash hash) (out-Node node).zero child (out-Node node).two p ≡ instead One (added key hash (after One (at_node node))) (xored hash (at_node node)) p
    at [] = here node hash
    at (Zero ∷ p) = sym (at_open node (Zero ∷ p))
    at (One ∷ p) = put p ∙ ap (λ f. added key hash f p) (fun_ext (λ q. sym (at_open node (One ∷ q))))
    at (Two ∷ p) = sym (at_open node (Two ∷ p))

  pub laid_two : ((p : List Digit) → at_below child p ≡ added key hash (at_below (out-Node node).two) p) → (p : List Digit) →
      at_node (roll-Node record { hash = bit_xor (out-Node node).hash hash; zero = (out-Node node).zero; one = (out-Node node).one; two = child }) p
      ≡ instead Two (added key hash (after Two (at_node node))) (xored hash (at_node node)) p
  laid_two put p = at_rolled _ _ _ _ p ∙ at p where
    at : (p : List Digit) → at_fields (bit_xor (out-Node node).hash hash) (out-Node node).zero (out-Node node).one child p ≡ instead Two (added key hash (after Two (at_node node))) (xored hash (at_node node)) p
    at [] = here node hash
    at (Zero ∷ p) = sym (at_open node (Zero ∷ p))
    at (One ∷ p) = sym (at_open node (One ∷ p))
    at (Two ∷ p) = put p ∙ ap (λ f. added key hash f p) (fun_ext (λ q. sym (at_open node (Two ∷ q))))

-- behind 1 and 2 nothing stays that is put behind 0
pub none_stays : (f g : Held) → (is_some (f (One ∷ [])) && is_some (f (Two ∷ []))) ≡ true → (p : List Digit) → with_two_greatest f p ≡ with_two_greatest (instead Zero g f) p
none_stays f g full [] = refl
none_stays f g full (Zero ∷ p) = ap (λ b. cond b None (f (Zero ∷ p))) full ∙ sym (ap (λ b. cond b None (g p)) full)
none_stays f g full (One ∷ p) = refl
none_stays f g full (Two ∷ p) = refl

-- the insertion goes on in a node that the least child may then leave
pub thinned : (mid new : Node) (f g : Held) → ((p : List Digit) → at_node new p ≡ with_two_greatest (at_node mid) p) → ((p : List Digit) → at_node mid p ≡ f p) → g ≡ with_two_greatest f → (p : List Digit) → at_node new p ≡ g p
thinned mid new f g pruned laid e p = pruned p ∙ ap (λ h. with_two_greatest h p) (fun_ext laid) ∙ sym (ap (λ h. h p) e)

pub child_there : (key : List Digit) (hash : ℕ) (child : Child) (old new : Node) (b b' : Box Node Global) → child ≡ Some b → old ≡ b.value → b'.value ≡ new →
    ((p : List Digit) → at_node new p ≡ added key hash (at_node old) p) → (p : List Digit) → at_below (Some b') p ≡ added key hash (at_below child) p
child_there key hash child old new b b' some from to put p =
    ap (λ n. at_node n p) to ∙ put p ∙ ap (λ n. added key hash (at_node n) p) from ∙ sym (ap (λ c. added key hash (at_below c) p) some)

-- the trie of no entries holds nothing but a hash of 0
pub no_more : (p : List Digit) (d : Digit) → pruned [] (d ∷ p) ≡ None
no_more p Zero = pruned_zero [] p
no_more p One = pruned_one [] p
no_more p Two = pruned_two [] p

pub from_nothing : (key : List Digit) (hash : ℕ) (p : List Digit) → added key hash (pruned []) p ≡ added key hash (at_below None) p
from_nothing [] hash [] = refl
from_nothing [] hash (d ∷ p) = no_more p d
from_nothing (c ∷ key) hash p = ap (λ f. with_two_greatest f p) (fun_ext both) where
  behind : after c (pruned []) ≡ after c (at_below None)
  behind = fun_ext (λ q. no_more q c)

  rest : (q : List Digit) → xored hash (pruned []) q ≡ xored hash (at_below None) q
  rest [] = refl
  rest (d ∷ q) = no_more q d

  both : (q : List Digit) → instead c (added key hash (after c (pruned []))) (xored hash (pruned [])) q ≡ instead c (added key hash (after c (at_below None))) (xored hash (at_below None)) q
  both q = ap (λ f. instead c (added key hash f) (xored hash (pruned [])) q) behind ∙ ap (λ f. instead c (added key hash (after c (at_below None))) f q) (fun_ext rest)

pub child_new : (key : List Digit) (hash : ℕ) (child : Child) (old new : Node) (b' : Box Node Global) → child ≡ None → ((p : List Digit) → at_node old p ≡ pruned [] p) → b'.value ≡ new →
    ((p : List Digit) → at_node new p ≡ added key hash (at_node old) p) → (p : List Digit) → at_below (Some b') p ≡ added key hash (at_below child) p
child_new key hash child old new b' none from to put p =
    ap (λ n. at_node n p) to ∙ put p ∙ ap (λ f. added key hash f p) (fun_ext from) ∙ from_nothing key hash p ∙ sym (ap (λ c. added key hash (at_below c) p) none)

pub none_left : (key : List Digit) → length key ≡ 0 → key ≡ []
none_left [] h = refl
none_left (d ∷ key) h = absurd (omega arith)
