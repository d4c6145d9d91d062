-- Adding a hash to the pruned trie of a list makes that of the list with one more entry.
use Rattle.std.proofs.Common.{◌≡◌, ℕ, zero, List, [], ◌∷◌, ◌++◌, Some, None, Bool, true, false, ◌&&◌, cond, is_some, bit_xor, refl, sym, ap, ap₂, ◌∙◌}
use Rattle.std.proofs.Math.Path.{fun_ext}
use Rattle.std.specs.Int.Bits.{xor_assoc}
use Rattle.std.proofs.lemmas.Nat.{xor_comm}
use Rattle.std.proofs.lemmas.List.{append-nil}
use Rattle.minute_trie.specs.declared.key.Digit.{Digit}
use Rattle.minute_trie.specs.declared.key.Digit.TheVariants.{Zero, One, Two}
use Rattle.minute_trie.specs.Pruned.{Entry, xor, pruned}
use Rattle.minute_trie.specs.Held.{after}
use Rattle.minute_trie.specs.Adding.{xored, instead, added}
use Rattle.minute_trie.proofs.Pruning.{below, has, has_both, pruned_below, pruned_zero, pruned_one, pruned_two, below_append}
use Rattle.minute_trie.proofs.Inserting.{from_nothing}

xor_push : (es : List Entry) (key : List Digit) (hash : ℕ) → xor (es ++ (key, hash) ∷ []) [] ≡ bit_xor (xor es []) hash
xor_push [] key hash = xor_comm hash zero
xor_push (e ∷ es) key hash = ap (bit_xor e.1) (xor_push es key hash) ∙ sym (xor_assoc e.1 (xor es []) hash)

head_there : (es : List Entry) → is_some (pruned_below es []) ≡ has es
head_there [] = refl
head_there (e ∷ es) = refl

has_more : (es fs : List Entry) → has (es ++ fs) ≡ false → has es ≡ false
has_more [] fs h = refl
has_more (e ∷ es) fs h = h

fewer : (a b a' b' : Bool) → (a' ≡ false → a ≡ false) → (b' ≡ false → b ≡ false) → (a' && b') ≡ false → (a && b) ≡ false
fewer a b false b' f g h = ap (λ x. x && b) (f refl)
fewer true b true b' f g h = g h
fewer false b true b' f g h = refl

both_more : (es fs : List Entry) → has_both (es ++ fs) ≡ false → has_both es ≡ false
both_more es fs h = fewer (has (below One es)) (has (below Two es)) (has (below One (es ++ fs))) (has (below Two (es ++ fs))) (one One) (one Two) h where
  one : (d : Digit) → has (below d (es ++ fs)) ≡ false → has (below d es) ≡ false
  one d k = has_more (below d es) (below d fs) (sym (ap has (below_append d es fs)) ∙ k)

-- a hash that is added to the trie of no entries makes the same as one that is added to nothing
from_below : (key : List Digit) (hash : ℕ) (es : List Entry) (p : List Digit) → added key hash (pruned es) p ≡ added key hash (pruned_below es) p
from_below key hash [] p = from_nothing key hash p
from_below key hash (e ∷ es) p = refl

-- what stands behind a digit
module _ (key : List Digit) (hash : ℕ) (es : List Entry) where
  same_behind : (c d : Digit) → below d ((c ∷ key, hash) ∷ []) ≡ [] → ((p : List Digit) → pruned es (d ∷ p) ≡ pruned_below (below d es) p) → (p : List Digit) →
      pruned es (d ∷ p) ≡ pruned_below (below d (es ++ (c ∷ key, hash) ∷ [])) p
  same_behind c d none is p = is p ∙ ap (λ fs. pruned_below fs p) (sym (below_append d es ((c ∷ key, hash) ∷ []) ∙ ap (λ fs. below d es ++ fs) none ∙ append-nil (below d es)))

  more_behind : (d : Digit) → ((fs : List Entry) (p : List Digit) → added key hash (pruned_below fs) p ≡ pruned_below (fs ++ (key, hash) ∷ []) p) →
      below d ((d ∷ key, hash) ∷ []) ≡ (key, hash) ∷ [] → ((p : List Digit) → pruned es (d ∷ p) ≡ pruned_below (below d es) p) → (p : List Digit) →
      added key hash (after d (pruned es)) p ≡ pruned_below (below d (es ++ (d ∷ key, hash) ∷ [])) p
  more_behind d next one is p =
      ap (λ f. added key hash f p) (fun_ext is) ∙ next (below d es) p ∙ ap (λ fs. pruned_below fs p) (sym (below_append d es ((d ∷ key, hash) ∷ []) ∙ ap (λ fs. below d es ++ fs) one))

  behind : (c d : Digit) → ((fs : List Entry) (p : List Digit) → added key hash (pruned_below fs) p ≡ pruned_below (fs ++ (key, hash) ∷ []) p) →
      ((p : List Digit) → pruned es (d ∷ p) ≡ pruned_below (below d es) p) → (p : List Digit) →
      instead c (added key hash (after c (pruned es))) (xored hash (pruned es)) (d ∷ p) ≡ pruned_below (below d (es ++ (c ∷ key, hash) ∷ [])) p
  behind Zero Zero next is p = more_behind Zero next refl is p
  behind One One next is p = more_behind One next refl is p
  behind Two Two next is p = more_behind Two next refl is p
  behind Zero One next is p = same_behind Zero One refl is p
  behind Zero Two next is p = same_behind Zero Two refl is p
  behind One Zero next is p = same_behind One Zero refl is p
  behind One Two next is p = same_behind One Two refl is p
  behind Two Zero next is p = same_behind Two Zero refl is p
  behind Two One next is p = same_behind Two One refl is p

as_below : (es : List Entry) (e : Entry) (p : List Digit) → pruned (es ++ e ∷ []) p ≡ pruned_below (es ++ e ∷ []) p
as_below [] e p = refl
as_below (x ∷ es) e p = refl

same : (es : List Entry) (hash : ℕ) (d : Digit) → below d es ≡ below d (es ++ ([], hash) ∷ [])
same es hash d = sym (below_append d es (([], hash) ∷ []) ∙ append-nil (below d es))

-- what stands behind the least digit
at_zero : (key : List Digit) (hash : ℕ) (es : List Entry) (c : Digit) (p : List Digit) → ((fs : List Entry) (p : List Digit) → added key hash (pruned_below fs) p ≡ pruned_below (fs ++ (key, hash) ∷ []) p) →
    (b : Bool) → has_both (es ++ (c ∷ key, hash) ∷ []) ≡ b →
    cond b None (instead c (added key hash (after c (pruned es))) (xored hash (pruned es)) (Zero ∷ p)) ≡ cond b None (pruned_below (below Zero (es ++ (c ∷ key, hash) ∷ [])) p)
at_zero key hash es c p next true e = refl
at_zero key hash es c p next false e =
    behind key hash es c Zero next (λ q. pruned_zero es q ∙ ap (λ b. cond b None (pruned_below (below Zero es) q)) (both_more es ((c ∷ key, hash) ∷ []) e)) p

none_added : (hash : ℕ) (es : List Entry) (p : List Digit) → added [] hash (pruned es) p ≡ pruned (es ++ ([], hash) ∷ []) p
none_added hash es [] = ap Some (sym (xor_push es [] hash))
none_added hash es (Two ∷ p) = pruned_two es p ∙ ap (λ fs. pruned_below fs p) (same es hash Two) ∙ sym (pruned_two (es ++ ([], hash) ∷ []) p)
none_added hash es (One ∷ p) = pruned_one es p ∙ ap (λ fs. pruned_below fs p) (same es hash One) ∙ sym (pruned_one (es ++ ([], hash) ∷ []) p)
none_added hash es (Zero ∷ p) =
    pruned_zero es p ∙ ap₂ (λ b fs. cond b None (pruned_below fs p)) (ap₂ (λ fs gs. has fs && has gs) (same es hash One) (same es hash Two)) (same es hash Zero) ∙ sym (pruned_zero (es ++ ([], hash) ∷ []) p)

module _ (c : Digit) (key : List Digit) (hash : ℕ) (next : (fs : List Entry) (p : List Digit) → added key hash (pruned_below fs) p ≡ pruned_below (fs ++ (key, hash) ∷ []) p) where
  one_added : (es : List Entry) (p : List Digit) → added (c ∷ key) hash (pruned es) p ≡ pruned (es ++ (c ∷ key, hash) ∷ []) p
  one_added es [] = ap Some (sym (xor_push es (c ∷ key) hash))
  one_added es (Two ∷ p) = behind key hash es c Two next (pruned_two es) p ∙ sym (pruned_two (es ++ (c ∷ key, hash) ∷ []) p)
  one_added es (One ∷ p) = behind key hash es c One next (pruned_one es) p ∙ sym (pruned_one (es ++ (c ∷ key, hash) ∷ []) p)
  one_added es (Zero ∷ p) =
      ap (λ b. cond b None (instead c (added key hash (after c (pruned es))) (xored hash (pruned es)) (Zero ∷ p)))
      (ap₂ (λ a b. a && b)
      (ap is_some (behind key hash es c One next (pruned_one es) []) ∙ head_there (below One (es ++ (c ∷ key, hash) ∷ [])))
      (ap is_some (behind key hash es c Two next (pruned_two es) []) ∙ head_there (below Two (es ++ (c ∷ key, hash) ∷ []))))
      ∙ at_zero key hash es c p next (has_both (es ++ (c ∷ key, hash) ∷ [])) refl ∙ sym (pruned_zero (es ++ (c ∷ key, hash) ∷ []) p)

added_below : (key : List Digit) (hash : ℕ) (es : List Entry) (p : List Digit) → added key hash (pruned_below es) p ≡ pruned_below (es ++ (key, hash) ∷ []) p
added_below [] hash es p = sym (from_below [] hash es p) ∙ none_added hash es p ∙ as_below es ([], hash) p
added_below (c ∷ key) hash es p = sym (from_below (c ∷ key) hash es p) ∙ one_added c key hash (added_below key hash) es p ∙ as_below es (c ∷ key, hash) p

pub added_pruned : (key : List Digit) (hash : ℕ) (es : List Entry) (p : List Digit) → added key hash (pruned es) p ≡ pruned (es ++ (key, hash) ∷ []) p
added_pruned key hash es p = from_below key hash es p ∙ added_below key hash es p ∙ sym (as_below es (key, hash) p)
