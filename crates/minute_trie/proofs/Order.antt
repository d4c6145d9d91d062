-- The pruned trie does not depend on the order of the entries.
use Rattle.std.proofs.Common.{◌≡◌, ℕ, zero, suc, ◌<◌, length, List, [], ◌∷◌, map, filter, Bool, true, false, ◌&&◌, ◌||◌, cond, nat_le, bit_xor, Some, None, set, get_or, get_or-set_same, get_or-set_other, IsPermutation, refl, sym, ap, ap₂, ◌∙◌, arith}
use Rattle.std.specs.Int.Bits.{xor_assoc, xor_self}
use Rattle.std.specs.List.{list_all}
use Rattle.std.proofs.lemmas.Nat.{xor_comm}
use Rattle.std.proofs.lemmas.List.{length-set}
use Rattle.std.proofs.lemmas.List.Edits.{swap_is}
use Rattle.std.proofs.lemmas.List.Sorted.{IsPermutation-keeps, list_any-IsPermutation}
use Rattle.minute_trie.specs.declared.key.Digit.{Digit}
use Rattle.minute_trie.specs.Pruned.{Entry, lies_below, xor_all, hash_of, xor, is_empty, present, prefixes, greater, stays, pruned}

hd : {X : Type 0} (xs : List X) → 0 < length xs → X
hd [] h = absurd (omega arith)
hd (x ∷ xs) h = x

xor_left : (a b c : ℕ) → bit_xor a (bit_xor b c) ≡ bit_xor b (bit_xor a c)
xor_left a b c = sym (xor_assoc a b c) ∙ ap (λ n. bit_xor n c) (xor_comm a b) ∙ xor_assoc b a c

xor_cancel : (a b c : ℕ) → bit_xor a b ≡ bit_xor a c → b ≡ c
xor_cancel a b c e = sym (twice a b) ∙ ap (bit_xor a) e ∙ twice a c where
  twice : (a b : ℕ) → bit_xor a (bit_xor a b) ≡ b
  twice a b = sym (xor_assoc a a b) ∙ ap (λ n. bit_xor n b) (xor_self a)

abbrev xor_by : {X : Type 0} → (X → ℕ) → List X → ℕ
xor_by f [] = zero
xor_by f (x ∷ xs) = bit_xor (f x) (xor_by f xs)

xor_by-set : {X : Type 0} (f : X → ℕ) (l : List X) (i : ℕ) (v d : X) → i < length l → bit_xor (f (get_or l i d)) (xor_by f (set l i v)) ≡ bit_xor (f v) (xor_by f l)
xor_by-set f [] i v d h = absurd (omega arith)
xor_by-set f (x ∷ l) zero v d h = xor_left (f x) (f v) (xor_by f l)
xor_by-set f (x ∷ l) (suc i) v d h =
    xor_left (f (get_or l i d)) (f x) (xor_by f (set l i v)) ∙ ap (bit_xor (f x)) (xor_by-set f l i v d (omega arith)) ∙ xor_left (f x) (f v) (xor_by f l)

xor_by-permutation : {X : Type 0} (f : X → ℕ) (xs ys : List X) → IsPermutation xs ys → xor_by f ys ≡ xor_by f xs
xor_by-permutation {X} f xs ys = IsPermutation-keeps xs (λ l. xor_by f l ≡ xor_by f xs) refl (λ l i j p q h.
    let d : X = hd l (omega arith) in
    let w : List X = set l i (get_or l j d) in
    let long : length w ≡ length l = length-set l i (get_or l j d) in
    let there : get_or w j d ≡ get_or l j d = grind (arith, get_or-set_same l i (get_or l j d) d p, get_or-set_other l i j (get_or l j d) d) in
    let first = xor_by-set f l i (get_or l j d) d p in
    let second = xor_by-set f w j (get_or l i d) d (omega arith) in
    let joined = ap (λ x. bit_xor (f x) (xor_by f (set w j (get_or l i d)))) (sym there) ∙ second ∙ first in
    ap (xor_by f) (sym (swap_is l i j d p q)) ∙ xor_cancel (f (get_or l j d)) _ _ joined ∙ h) ys

abbrev weight : List Digit → Entry → ℕ
weight p e = cond (lies_below p e) (hash_of e) zero

picked : (b : Bool) (e : Entry) (es : List Entry) → xor_all (map hash_of (cond b (e ∷ es) es)) ≡ bit_xor (cond b (hash_of e) zero) (xor_all (map hash_of es))
picked true e es = refl
picked false e es = refl

xor_is : (p : List Digit) (es : List Entry) → xor es p ≡ xor_by (weight p) es
xor_is p [] = refl
xor_is p (e ∷ es) = picked (lies_below p e) e (filter (lies_below p) es) ∙ ap (bit_xor (weight p e)) (xor_is p es)

module _ (es fs : List Entry) (same : IsPermutation es fs) where
  pub xor_same : (p : List Digit) → xor es p ≡ xor fs p
  xor_same p = xor_is p es ∙ sym (xor_by-permutation (weight p) es fs same) ∙ sym (xor_is p fs)

  present_same : (p : List Digit) → present es p ≡ present fs p
  present_same p = ap (λ b. is_empty p || b) (list_any-IsPermutation (lies_below p) es fs same)

  filter_same : (ps : List (List Digit)) → filter (present es) ps ≡ filter (present fs) ps
  filter_same [] = refl
  filter_same (p ∷ ps) = ap₂ (λ b qs. cond b (p ∷ qs) qs) (present_same p) (filter_same ps)

  stays_same : (p : List Digit) → stays es p ≡ stays fs p
  stays_same p = ap₂ (λ b qs. b && nat_le (length qs) 1) (present_same p) (filter_same (greater p))

  all_same : (ps : List (List Digit)) → list_all (stays es) ps ≡ list_all (stays fs) ps
  all_same [] = refl
  all_same (p ∷ ps) = ap₂ (λ a b. a && b) (stays_same p) (all_same ps)

  pub pruned_same : (p : List Digit) → pruned es p ≡ pruned fs p
  pruned_same p = ap₂ (λ b n. cond b (Some n) None) (all_same (prefixes p)) (xor_same p)
