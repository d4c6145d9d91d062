-- The walk over two tries.
use Rattle.std.proofs.Common.{◌≡◌, ℕ, zero, suc, ◌+◌, ◌-◌, ◌*◌, ◌^◌, ◌<◌, ◌≤◌, List, [], ◌∷◌, Option, Some, None, refl, sym, ap, ◌∙◌, arith, pow-suc, lit<}
use Rattle.std.proofs.Math.Nat.{pow-le-pow_right}
use Rattle.minute_trie.specs.declared.key.Digit.{Digit}
use Rattle.minute_trie.specs.declared.key.Digit.TheVariants.{Zero, One, Two}
use Rattle.minute_trie.specs.declared.walk.Turn.{Turn}
use Rattle.minute_trie.specs.declared.walk.Turn.TheVariants.{On, Down, Stop}
use Rattle.minute_trie.specs.Held.{Held, after}
use Rattle.minute_trie.specs.Diff.{digit_by_turn, way_down, going_down, walk, digit_value, padded}

pub three_pos : (n : ℕ) → 0 < 3 ^ n
three_pos zero = lit< tt
three_pos (suc n) = rw pow-suc (omega (arith, three_pos n))

pub three_small : (n : ℕ) → n < 16 → 3 ^ n ≤ 14_348_907
three_small n h = pow-le-pow_right {n = 3} (lit< tt) {i = n} {j = 15} (omega arith)

pub padded_lt : (n : ℕ) (p : List Digit) → padded n p < 3 ^ n
padded_lt n [] = three_pos n
padded_lt zero (d ∷ p) = lit< tt
padded_lt (suc n) (Zero ∷ p) = rw pow-suc (omega (arith, padded_lt n p))
padded_lt (suc n) (One ∷ p) = rw pow-suc (omega (arith, padded_lt n p))
padded_lt (suc n) (Two ∷ p) = rw pow-suc (omega (arith, padded_lt n p))

way_same : (f f' g g' : Held) → ((p : List Digit) → f p ≡ f' p) → ((p : List Digit) → g p ≡ g' p) → way_down f g ≡ way_down f' g'
way_same f f' g g' s t = rw (s (Zero ∷ []), s (One ∷ []), s (Two ∷ []), t (Zero ∷ []), t (One ∷ []), t (Two ∷ [])) refl

led_same : (h k : Digit → List Digit) (d : Option Digit) → ((d : Digit) → h d ≡ k d) → going_down h d ≡ going_down k d
led_same h k None s = refl
led_same h k (Some d) s = ap (λ p. d ∷ p) (s d)

pub walk_same : (n : ℕ) (f f' g g' : Held) → ((p : List Digit) → f p ≡ f' p) → ((p : List Digit) → g p ≡ g' p) → walk n f g ≡ walk n f' g'
walk_same zero f f' g g' s t = refl
walk_same (suc n) f f' g g' s t =
    rw (way_same f f' g g' s t)
    (led_same (λ d. walk n (after d f) (after d g)) (λ d. walk n (after d f') (after d g')) (way_down f' g') (λ d. walk_same n (after d f) (after d f') (after d g) (after d g') (λ p. s (d ∷ p)) (λ p. t (d ∷ p))))

-- a walk of which one side holds nothing
nowhere : (a b c : Turn) → (a ≡ Down → ⊥) → (b ≡ Down → ⊥) → (c ≡ Down → ⊥) → digit_by_turn a Zero (digit_by_turn b One (digit_by_turn c Two None)) ≡ None
nowhere Down b c h k l = absurd (h refl)
nowhere Stop b c h k l = refl
nowhere On Down c h k l = absurd (k refl)
nowhere On Stop c h k l = refl
nowhere On On Down h k l = absurd (l refl)
nowhere On On Stop h k l = refl
nowhere On On On h k l = refl

-- one step down
pub padded_step : (n : ℕ) (d : Digit) (f f' g g' : Held) → ((p : List Digit) → f' p ≡ f (d ∷ p)) → ((p : List Digit) → g' p ≡ g (d ∷ p)) → way_down f g ≡ Some d →
    padded (suc n) (walk (suc n) f g) ≡ digit_value d * 3 ^ n + padded n (walk n f' g')
padded_step n d f f' g g' s t way = rw (way, sym (walk_same n f' (after d f) g' (after d g) s t)) refl

pub number_of_step : (levels : ℕ) (d : Digit) (f f' g g' : Held) (number rest : ℕ) → (levels ≡ 0 → ⊥) → ((p : List Digit) → f' p ≡ f (d ∷ p)) → ((p : List Digit) → g' p ≡ g (d ∷ p)) → Some d ≡ way_down f g →
    rest ≡ padded (levels - 1) (walk (levels - 1) f' g') → number ≡ digit_value d * 3 ^ (levels - 1) + rest → number ≡ padded levels (walk levels f g)
number_of_step zero d f f' g g' number rest some s t way r e = absurd (some refl)
number_of_step (suc n) d f f' g g' number rest some s t way r e =
    let less : suc n - 1 ≡ n = omega arith in
    (rw less at e) ∙ ap (λ m. digit_value d * 3 ^ n + m) (rw less at r) ∙ sym (padded_step n d f f' g g' s t (sym way))
