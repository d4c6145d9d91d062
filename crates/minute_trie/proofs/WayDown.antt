-- The walk goes down to the first difference.
use Rattle.std.proofs.Common.{◌≡◌, ◌≢◌, ℕ, zero, suc, List, [], ◌∷◌, ◌++◌, length, Option, Some, None, Bool, true, false, cond, eqb, eq-eqb, ◌⊎◌, inl, inr, refl, sym, ap, ◌∙◌, subst, arith}
use Rattle.std.proofs.lemmas.Bool.{eqb-true}
use Rattle.minute_trie.specs.declared.key.Digit.{Digit}
use Rattle.minute_trie.specs.declared.key.Digit.TheVariants.{Zero, One, Two}
use Rattle.minute_trie.specs.declared.walk.Turn.{Turn}
use Rattle.minute_trie.specs.declared.walk.Turn.TheVariants.{On, Down, Stop}
use Rattle.minute_trie.specs.Held.{Held, after, IsMap}
use Rattle.minute_trie.specs.Diff.{turn_of, turn_at, digit_by_turn, going_down, walk, end_of_walk}
use Rattle.minute_trie.specs.Laws.{DifferAt, AreSameBefore, AreSameBelow, IsOneSidedBelow, LeadsDown}
use Rattle.minute_trie.proofs.Exchange.{down_is}

-- ---- what each turn says

on_same : (a b : Option ℕ) → turn_of a b ≡ On → a ≡ b
on_same None None h = refl
on_same None (Some y) h = absurd (cc)
on_same (Some x) None h = absurd (cc)
on_same (Some x) (Some y) h = by_hash (eqb x y) refl h where
  by_hash : (b : Bool) → eqb x y ≡ b → cond b On Down ≡ On → Some x ≡ Some y
  by_hash true e h = ap Some (eqb-true x y e)
  by_hash false e h = absurd (cc)

stop_one : (a b : Option ℕ) → turn_of a b ≡ Stop → (a ≢ b) × ((a ≡ None) ⊎ (b ≡ None))
stop_one None None h = absurd (cc)
stop_one None (Some y) h = (λ e. cc, inl refl)
stop_one (Some x) None h = (λ e. cc, inr refl)
stop_one (Some x) (Some y) h = by_hash (eqb x y) h where
  by_hash : (b : Bool) → cond b On Down ≡ Stop → (Some x ≢ Some y) × ((Some x ≡ None) ⊎ (Some y ≡ None))
  by_hash true h = absurd (cc)
  by_hash false h = absurd (cc)

differ_of : (d : Digit) (f g : Held) → turn_at d f g ≡ Down → DifferAt f g (d ∷ [])
differ_of d f g h =
    let k = down_is (f (d ∷ [])) (g (d ∷ [])) h in
    (k.left, k.right, k.left_is, k.right_is, λ e. let t : eqb k.left k.right ≡ true = eq-eqb k.left k.right e in let z : true ≡ false = sym t ∙ k.apart in cc)

-- ---- where the walk ends at once

at_root : (n : ℕ) (f g : Held) → DifferAt f g [] → (0 ≡ n) ⊎ (AreSameBelow f g [] ⊎ IsOneSidedBelow f g []) → LeadsDown n f g []
at_root n f g root end = record { differs = differs; passed = λ p r d e. absurd (not_empty p r d e); ends = end } where
  differs : (p q : List Digit) → [] ≡ p ++ q → DifferAt f g p
  differs [] q e = root
  differs (c ∷ p) q e = absurd (cc)

  not_empty : (p r : List Digit) (d : Digit) → [] ≡ p ++ d ∷ r → ⊥
  not_empty [] r d e = cc
  not_empty (c ∷ p) r d e = cc

-- ---- one step

module _ (n : ℕ) (f g : Held) (root : DifferAt f g []) where
  one_down : (d : Digit) (s : List Digit) → AreSameBefore f g [] d → LeadsDown n (after d f) (after d g) s → LeadsDown (suc n) f g (d ∷ s)
  one_down d s same l = record { differs = differs; passed = passed; ends = ends l.ends } where
    differs : (p q : List Digit) → d ∷ s ≡ p ++ q → DifferAt f g p
    differs [] q e = root
    differs (c ∷ p) q e = let h : d ≡ c = cc in let k : s ≡ p ++ q = cc in subst (λ x. DifferAt f g (x ∷ p)) h (l.differs p q k)

    passed : (p r : List Digit) (c : Digit) → d ∷ s ≡ p ++ c ∷ r → AreSameBefore f g p c
    passed [] r c e = let h : d ≡ c = cc in subst (λ x. AreSameBefore f g [] x) h same
    passed (b ∷ p) r c e = let h : d ≡ b = cc in let k : s ≡ p ++ c ∷ r = cc in subst (λ x. AreSameBefore f g (x ∷ p) c) h (l.passed p r c k)

    ends : (length s ≡ n) ⊎ (AreSameBelow (after d f) (after d g) s ⊎ IsOneSidedBelow (after d f) (after d g) s) →
        (length (d ∷ s) ≡ suc n) ⊎ (AreSameBelow f g (d ∷ s) ⊎ IsOneSidedBelow f g (d ∷ s))
    ends (inl h) = inl (ap suc h)
    ends (inr (inl h)) = inr (inl h)
    ends (inr (inr h)) = inr (inr h)

  stopped : (d : Digit) → AreSameBefore f g [] d → turn_at d f g ≡ Stop → LeadsDown (suc n) f g []
  stopped d same h = let k = stop_one (f (d ∷ [])) (g (d ∷ [])) h in at_root (suc n) f g root (inr (inr (d, same, k.0, k.1)))

  before_zero : AreSameBefore f g [] Zero
  before_zero e l = absurd (omega arith)

  before_one : turn_at Zero f g ≡ On → AreSameBefore f g [] One
  before_one h Zero l = on_same _ _ h
  before_one h One l = absurd (omega arith)
  before_one h Two l = absurd (omega arith)

  before_two : turn_at Zero f g ≡ On → turn_at One f g ≡ On → AreSameBefore f g [] Two
  before_two h k Zero l = on_same _ _ h
  before_two h k One l = on_same _ _ k
  before_two h k Two l = absurd (omega arith)

  all_same : turn_at Zero f g ≡ On → turn_at One f g ≡ On → turn_at Two f g ≡ On → AreSameBelow f g []
  all_same h k m Zero = on_same _ _ h
  all_same h k m One = on_same _ _ k
  all_same h k m Two = on_same _ _ m

  module _ (below : Digit → List Digit) (next : (d : Digit) → DifferAt f g (d ∷ []) → LeadsDown n (after d f) (after d g) (below d)) where
    by_turns : (a b c : Turn) → turn_at Zero f g ≡ a → turn_at One f g ≡ b → turn_at Two f g ≡ c →
        LeadsDown (suc n) f g (going_down below (digit_by_turn a Zero (digit_by_turn b One (digit_by_turn c Two None))))
    by_turns Down b c h k m = one_down Zero (below Zero) before_zero (next Zero (differ_of Zero f g h))
    by_turns Stop b c h k m = stopped Zero before_zero h
    by_turns On Down c h k m = one_down One (below One) (before_one h) (next One (differ_of One f g k))
    by_turns On Stop c h k m = stopped One (before_one h) k
    by_turns On On Down h k m = one_down Two (below Two) (before_two h k) (next Two (differ_of Two f g m))
    by_turns On On Stop h k m = stopped Two (before_two h k) m
    by_turns On On On h k m = at_root (suc n) f g root (inr (inl (all_same h k m)))

-- ---- the whole walk

leads : (n : ℕ) (f g : Held) → DifferAt f g [] → LeadsDown n f g (walk n f g)
leads zero f g root = at_root zero f g root (inl refl)
leads (suc n) f g root =
    by_turns n f g root (λ d. walk n (after d f) (after d g)) (λ d r. leads n (after d f) (after d g) r) (turn_at Zero f g) (turn_at One f g) (turn_at Two f g) refl refl refl

pub leads_down : (f g : Held) → IsMap 16 f → IsMap 16 g → f [] ≢ g [] → LeadsDown 16 f g (end_of_walk f g)
unfolding end_of_walk
leads_down f g a b ne = leads 16 f g (a.root.0, b.root.0, a.root.1, b.root.1, λ e. ne (a.root.1 ∙ ap Some e ∙ sym b.root.1))
