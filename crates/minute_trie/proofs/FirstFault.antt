-- The first fault of a text that is no trie is told.
use Rattle.std.proofs.Common.{◌≡◌, ◌<◌, ◌≤◌, ◌+◌, ◌-◌, ℕ, zero, suc, List, [], ◌∷◌, length, Option, Some, None, Bool, true, false, ◌⊎◌, inl, inr, refl, sym, ap, ◌∙◌, subst, arith}
use Rattle.std.specs.Prelude.{option_and_then, if◌then◌else◌}
use Rattle.serde_json.specs.Data.{Data}
use Rattle.serde_json.specs.Find.{get}
use Rattle.minute_trie.specs.declared.key.Digit.{Digit}
use Rattle.minute_trie.specs.declared.key.Digit.TheVariants.{Zero, One, Two}
use Rattle.minute_trie.specs.declared.read.TrieFault.{TrieFault}
use Rattle.minute_trie.specs.declared.read.TrieFault.TheVariants.{BadNode, TooDeep}
use Rattle.minute_trie.specs.Names.{child_name}
use Rattle.minute_trie.specs.Diff.{digit_value}
use Rattle.minute_trie.specs.Faults.{is_node, first_fault, or_else, of_child}
use Rattle.minute_trie.specs.FirstFault.{value_at, IsBefore, IsTold}

-- ---- the same below a string of k digits

record RightBelow (k : ℕ) (p : List Digit) (value : Data) : Type 0 where
  node : is_node value ≡ true
  depth : length p + k ≤ 16

record FirstBelow (k : ℕ) (at : List Digit → Option Data) (f : TrieFault) : Type 0 where
  place : List Digit
  value : Data
  stands : at place ≡ Some value
  told : ((f ≡ BadNode (length place + k)) × (is_node value ≡ false) × (length place + k ≤ 16)) ⊎ ((f ≡ TooDeep) × (length place + k ≡ 17))
  earlier : (q : List Digit) (v : Data) → IsBefore q place → at q ≡ Some v → RightBelow k q v

abbrev ToldBelow : ℕ → (List Digit → Option Data) → Option TrieFault → Type 0
ToldBelow k at None = (q : List Digit) (v : Data) → at q ≡ Some v → RightBelow k q v
ToldBelow k at (Some f) = FirstBelow k at f

abbrev behind : Digit → Data → List Digit → Option Data
behind c d q = value_at (c ∷ q) d

-- ---- one child

child : (k : ℕ) (c : Digit) (d : Data) (f : Data → Option TrieFault) → ((e : Data) → ToldBelow (suc k) (λ q. value_at q e) (f e))
    → (there : Option Data) → get (child_name c) d ≡ there → ToldBelow (suc k) (behind c d) (of_child f there)
child k c d f each None is = λ q v h. let z : None ≡ Some v = sym (ap (option_and_then (value_at q)) is) ∙ h in absurd (cc)
child k c d f each (Some e) is = moved (f e) (each e) where
  same : (q : List Digit) → behind c d q ≡ value_at q e
  same q = ap (option_and_then (value_at q)) is

  moved : (r : Option TrieFault) → ToldBelow (suc k) (λ q. value_at q e) r → ToldBelow (suc k) (behind c d) r
  moved None t = λ q v h. t q v (sym (same q) ∙ h)
  moved (Some x) t = record {
    place = t.place;
    value = t.value;
    stands = same t.place ∙ t.stands;
    told = t.told;
    earlier = λ q v b h. t.earlier q v b (sym (same q) ∙ h);
  }

-- ---- a node, whose children are read in turn

module _ (k : ℕ) (d : Data) (node : is_node d ≡ true) (low : k ≤ 16) where
  root : (v : Data) → value_at [] d ≡ Some v → RightBelow k [] v
  root v h = let e : d ≡ v = cc in record { node = subst (λ x. is_node x ≡ true) e node; depth = omega (arith, low) }

  deeper : (c : Digit) (q : List Digit) (v : Data) → RightBelow (suc k) q v → RightBelow k (c ∷ q) v
  deeper c q v r = record { node = r.node; depth = omega (arith, r.depth) }

  -- the fault of a child is the first of all, where no earlier child has one
  found : (c : Digit) (f : TrieFault) → ((b : Digit) → digit_value b < digit_value c → ToldBelow (suc k) (behind b d) None)
      → FirstBelow (suc k) (behind c d) f → FirstBelow k (λ q. value_at q d) f
  found c f before t = record { place = c ∷ t.place; value = t.value; stands = t.stands; told = told t.told; earlier = earlier } where
    told : ((f ≡ BadNode (length t.place + suc k)) × (is_node t.value ≡ false) × (length t.place + suc k ≤ 16)) ⊎ ((f ≡ TooDeep) × (length t.place + suc k ≡ 17))
        → ((f ≡ BadNode (suc (length t.place) + k)) × (is_node t.value ≡ false) × (suc (length t.place) + k ≤ 16)) ⊎ ((f ≡ TooDeep) × (suc (length t.place) + k ≡ 17))
    told (inl h) = let same : length t.place + suc k ≡ suc (length t.place) + k = omega arith in inl (h.0 ∙ ap BadNode same, h.1, omega (arith, h.2))
    told (inr h) = inr (h.0, omega (arith, h.1))

    earlier : (q : List Digit) (v : Data) → IsBefore q (c ∷ t.place) → value_at q d ≡ Some v → RightBelow k q v
    earlier [] v b h = root v h
    earlier (e ∷ q) v (inl less) h = deeper e q v (before e less q v h)
    earlier (e ∷ q) v (inr b) h =
        let at : behind c d q ≡ Some v = subst (λ x. behind x d q ≡ Some v) b.0 h in
        subst (λ x. RightBelow k (x ∷ q) v) (sym b.0) (deeper c q v (t.earlier q v b.1 at))

  all : (zero one two : Option TrieFault) → ToldBelow (suc k) (behind Zero d) zero → ToldBelow (suc k) (behind One d) one → ToldBelow (suc k) (behind Two d) two
      → ToldBelow k (λ q. value_at q d) (or_else zero (or_else one two))
  all (Some f) one two a b c = found Zero f (λ e less. absurd (none_below e less)) a where
    none_below : (e : Digit) → digit_value e < 0 → ⊥
    none_below e less = omega (arith, less)
  all None (Some f) two a b c = found One f first b where
    first : (e : Digit) → digit_value e < 1 → ToldBelow (suc k) (behind e d) None
    first Zero less = a
    first One less = absurd (omega (arith, less))
    first Two less = absurd (omega (arith, less))
  all None None (Some f) a b c = found Two f firsts c where
    firsts : (e : Digit) → digit_value e < 2 → ToldBelow (suc k) (behind e d) None
    firsts Zero less = a
    firsts One less = b
    firsts Two less = absurd (omega (arith, less))
  all None None None a b c = right where
    right : (q : List Digit) (v : Data) → value_at q d ≡ Some v → RightBelow k q v
    right [] v h = root v h
    right (Zero ∷ q) v h = deeper Zero q v (a q v h)
    right (One ∷ q) v h = deeper One q v (b q v h)
    right (Two ∷ q) v h = deeper Two q v (c q v h)

-- ---- all levels

told_below : (n k : ℕ) → n + k ≡ 17 → (d : Data) → ToldBelow k (λ q. value_at q d) (first_fault n d)
told_below zero k h d = record {
  place = [];
  value = d;
  stands = refl;
  told = inr (refl, h);
  earlier = λ q v b e. absurd b;
}
told_below (suc n) k h d = by_node (told_below n (suc k) (omega (arith, h))) (is_node d) refl where
  below : ((e : Data) → ToldBelow (suc k) (λ q. value_at q e) (first_fault n e)) → (c : Digit) → ToldBelow (suc k) (behind c d) (of_child (first_fault n) (get (child_name c) d))
  below each c = child k c d (first_fault n) each (get (child_name c) d) refl

  by_node : ((e : Data) → ToldBelow (suc k) (λ q. value_at q e) (first_fault n e)) → (b : Bool) → is_node d ≡ b → ToldBelow k (λ q. value_at q d)
      (if b then or_else (of_child (first_fault n) (get (child_name Zero) d)) (or_else (of_child (first_fault n) (get (child_name One) d)) (of_child (first_fault n) (get (child_name Two) d)))
      else Some (BadNode (16 - n)))
  by_node each true is = all k d is (omega (arith, h)) _ _ _ (below each Zero) (below each One) (below each Two)
  by_node each false is =
      let depth : 16 - n ≡ 0 + k = omega (arith, h) in
      record { place = []; value = d; stands = refl; told = inl (ap BadNode depth, is, omega (arith, h)); earlier = λ q v b e. absurd b }

pub faults_first : (d : Data) → IsTold d (first_fault 17 d)
faults_first d = plain (first_fault 17 d) (told_below 17 0 refl d) where
  plain : (r : Option TrieFault) → ToldBelow 0 (λ q. value_at q d) r → IsTold d r
  plain None t = λ q v h. let r = t q v h in record { node = r.node; depth = omega (arith, r.depth) }
  plain (Some f) t = record { place = t.place; value = t.value; stands = t.stands; told = told t.told; earlier = λ q v b h. let r = t.earlier q v b h in record { node = r.node; depth = omega (arith, r.depth) } } where
    told : ((f ≡ BadNode (length t.place + 0)) × (is_node t.value ≡ false) × (length t.place + 0 ≤ 16)) ⊎ ((f ≡ TooDeep) × (length t.place + 0 ≡ 17))
        → ((f ≡ BadNode (length t.place)) × (is_node t.value ≡ false) × (length t.place ≤ 16)) ⊎ ((f ≡ TooDeep) × (length t.place ≡ 17))
    told (inl h) = let same : length t.place + 0 ≡ length t.place = omega arith in inl (h.0 ∙ ap BadNode same, h.1, omega (arith, h.2))
    told (inr h) = inr (h.0, omega (arith, h.1))
