-- After an exchange from the place of the difference on, the next difference stands above it.
use Rattle.std.proofs.Common.{◌≡◌, ℕ, zero, suc, List, [], ◌∷◌, ◌++◌, Option, Some, None, Bool, true, false, ◌&&◌, cond, eqb, eq-eqb, refl, sym, ap, ap₂, ◌∙◌, subst}
use Rattle.minute_trie.specs.declared.key.Digit.{Digit}
use Rattle.minute_trie.specs.declared.key.Digit.TheVariants.{Zero, One, Two}
use Rattle.minute_trie.specs.declared.walk.Turn.{Turn}
use Rattle.minute_trie.specs.declared.walk.Turn.TheVariants.{On, Down, Stop}
use Rattle.minute_trie.specs.Pruned.{Entry, xor, pruned}
use Rattle.minute_trie.specs.Held.{Held, after}
use Rattle.minute_trie.specs.Diff.{turn_of, turn_at, digit_by_turn, way_down, going_down, walk}
use Rattle.minute_trie.specs.Rounds.{IsProperPrefix}
use Rattle.minute_trie.proofs.Agree.{Agree, Grows, AgreeBefore, AgreeFrom}
use Rattle.minute_trie.proofs.Pruning.{below, has, has_both, pruned_below, any_below, any_all, pruned_zero, pruned_one, pruned_two}
use Rattle.minute_trie.proofs.Walking.{walk_same}

has_same : (es fs : List Entry) → Agree es fs → has es ≡ has fs
has_same es fs a = sym (any_all es) ∙ a.any [] ∙ any_all fs

has_grown : (es fs : List Entry) → Grows es fs → has es ≡ true → has fs ≡ true
has_grown es fs g h = sym (any_all fs) ∙ g.any [] (any_all es ∙ h)

grown_below : (d : Digit) (es fs : List Entry) → Grows es fs → Grows (below d es) (below d fs)
grown_below d es fs g = record { any = λ p h. sym (any_below d p fs) ∙ g.any (d ∷ p) (any_below d p es ∙ h) }

-- what stands at the head
head_is : (es : List Entry) → pruned_below es [] ≡ cond (has es) (Some (xor es [])) None
head_is [] = refl
head_is (e ∷ es) = refl

head_same : (es fs : List Entry) → Agree es fs → pruned_below es [] ≡ pruned_below fs []
head_same es fs a = head_is es ∙ ap₂ (λ b n. cond b (Some n) None) (has_same es fs a) (a.hash []) ∙ sym (head_is fs)

-- a hash that stands at the head is that of the entries
head_hash : (es : List Entry) (x : ℕ) → pruned_below es [] ≡ Some x → xor es [] ≡ x
head_hash [] x h = absurd (cc)
head_hash (e ∷ es) x h = cc

-- what stands below a head
under_head : (es : List Entry) (x : ℕ) → pruned_below es [] ≡ Some x → (p : List Digit) → pruned_below es p ≡ pruned es p
under_head [] x h p = absurd (cc)
under_head (e ∷ es) x h p = refl

-- a hash that stands at the digit Zero
not_both : (b : Bool) (a : Option ℕ) (x : ℕ) → cond b None a ≡ Some x → (b ≡ false) × (a ≡ Some x)
not_both true a x h = absurd (cc)
not_both false a x h = (refl, h)

at_zero : (es : List Entry) (x : ℕ) → pruned es (Zero ∷ []) ≡ Some x → (has_both es ≡ false) × (pruned_below (below Zero es) [] ≡ Some x)
at_zero es x h = not_both (has_both es) _ x (sym (pruned_zero es []) ∙ h)

below_is : (d : Digit) (es : List Entry) (x : ℕ) → pruned es (d ∷ []) ≡ Some x → (pruned_below (below d es) [] ≡ Some x) × ((p : List Digit) → pruned es (d ∷ p) ≡ pruned (below d es) p)
below_is Two es x h =
    let k : pruned_below (below Two es) [] ≡ Some x = sym (pruned_two es []) ∙ h in
    (k, λ p. pruned_two es p ∙ under_head (below Two es) x k p)
below_is One es x h =
    let k : pruned_below (below One es) [] ≡ Some x = sym (pruned_one es []) ∙ h in
    (k, λ p. pruned_one es p ∙ under_head (below One es) x k p)
below_is Zero es x h =
    let k = at_zero es x h in
    (k.1, λ p. pruned_zero es p ∙ ap (λ b. cond b None (pruned_below (below Zero es) p)) k.0 ∙ under_head (below Zero es) x k.1 p)

-- where One and Two are not both there now, they were not before
both_before : (es es' : List Entry) → Grows es es' → has_both es' ≡ false → has_both es ≡ false
both_before es es' g h = go (has (below One es)) (has (below Two es)) (has (below One es')) (has (below Two es')) (has_grown _ _ (grown_below One es es' g)) (has_grown _ _ (grown_below Two es es' g)) h
  where
    go : (a b a' b' : Bool) → (a ≡ true → a' ≡ true) → (b ≡ true → b' ≡ true) → (a' && b') ≡ false → (a && b) ≡ false
    go false b a' b' f g h = refl
    go true false a' b' f g h = refl
    go true true a' b' f g h = let x = f refl in let y = g refl in absurd (cc)

stood_zero : (es es' : List Entry) (x : ℕ) → Grows es es' → Agree (below Zero es) (below Zero es') → pruned es' (Zero ∷ []) ≡ Some x → pruned es (Zero ∷ []) ≡ Some x
stood_zero es es' x g a h =
    let k = at_zero es' x h in
    pruned_zero es [] ∙ ap (λ b. cond b None (pruned_below (below Zero es) [])) (both_before es es' g k.0) ∙ head_same _ _ a ∙ k.1

stood_one : (es es' : List Entry) (x : ℕ) → Agree (below One es) (below One es') → pruned es' (One ∷ []) ≡ Some x → pruned es (One ∷ []) ≡ Some x
stood_one es es' x a h = pruned_one es [] ∙ head_same _ _ a ∙ sym (pruned_one es' []) ∙ h

-- what Down says
pub record AreApart (a b : Option ℕ) : Type 0 where
  pub left : ℕ
  pub right : ℕ
  pub left_is : a ≡ Some left
  pub right_is : b ≡ Some right
  pub apart : eqb left right ≡ false

pub down_is : (a b : Option ℕ) → turn_of a b ≡ Down → AreApart a b
down_is None None h = absurd (cc)
down_is None (Some y) h = absurd (cc)
down_is (Some x) None h = absurd (cc)
down_is (Some x) (Some y) h = record { left = x; right = y; left_is = refl; right_is = refl; apart = apart (eqb x y) h }
  where
    apart : (b : Bool) → cond b On Down ≡ Down → b ≡ false
    apart true h = absurd (cc)
    apart false h = refl

down_from : (a b : Option ℕ) → AreApart a b → turn_of a b ≡ Down
down_from a b d = rw (d.left_is, d.right_is, d.apart) refl

self_not_down : (a : Option ℕ) → turn_of a a ≡ Down → ⊥
self_not_down None h = cc
self_not_down (Some x) h = let e : eqb x x ≡ true = eq-eqb x x refl in let k : cond true On Down ≡ Down = sym (ap (λ b. cond b On Down) e) ∙ h in cc

same_not_down : (a b : Option ℕ) → a ≡ b → turn_of a b ≡ Down → ⊥
same_not_down a b e h = self_not_down a (ap (turn_of a) e ∙ h)

-- where the way leads down at most at d
abbrev Only : Digit → Turn → Option Digit → Type 0
Only d t None = Unit {0}
Only d t (Some c) = (c ≡ d) × (t ≡ Down)

only_other : (d c : Digit) (t u : Turn) (next : Option Digit) → (u ≡ Down → ⊥) → Only d t next → Only d t (digit_by_turn u c next)
only_other d c t On next h k = k
only_other d c t Down next h k = absurd (h refl)
only_other d c t Stop next h k = tt

only_this : (d : Digit) (t : Turn) (next : Option Digit) → Only d t next → Only d t (digit_by_turn t d next)
only_this d On next k = k
only_this d Down next k = (refl, refl)
only_this d Stop next k = tt

-- the walk from a way that leads down at most at d
walk_only : (n : ℕ) (d : Digit) (s : List Digit) (f g : Held) (way : Option Digit) → Only d (turn_at d f g) way →
    (turn_at d f g ≡ Down → IsProperPrefix (walk n (after d f) (after d g)) s) → IsProperPrefix (going_down (λ c. walk n (after c f) (after c g)) way) (d ∷ s)
walk_only n d s f g None o below = (d, (s, refl))
walk_only n d s f g (Some c) o below =
    let r = below o.1 in
    (r.0, (r.1.0, ap (λ t. d ∷ t) r.1.1 ∙ ap (λ e. e ∷ (walk n (after d f) (after d g) ++ r.0 ∷ r.1.0)) (sym o.0) ∙ ap (λ e. c ∷ (walk n (after e f) (after e g) ++ r.0 ∷ r.1.0)) (sym o.0)))

-- what a way down says of each turn
way_zero : (a b c : Turn) → digit_by_turn a Zero (digit_by_turn b One (digit_by_turn c Two None)) ≡ Some Zero → a ≡ Down
way_zero Down b c h = refl
way_zero Stop b c h = absurd (cc)
way_zero On Down c h = absurd (cc)
way_zero On Stop c h = absurd (cc)
way_zero On On Down h = absurd (cc)
way_zero On On Stop h = absurd (cc)
way_zero On On On h = absurd (cc)

way_one : (a b c : Turn) → digit_by_turn a Zero (digit_by_turn b One (digit_by_turn c Two None)) ≡ Some One → (a ≡ On) × (b ≡ Down)
way_one Down b c h = absurd (cc)
way_one Stop b c h = absurd (cc)
way_one On Down c h = (refl, refl)
way_one On Stop c h = absurd (cc)
way_one On On Down h = absurd (cc)
way_one On On Stop h = absurd (cc)
way_one On On On h = absurd (cc)

way_two : (a b c : Turn) → digit_by_turn a Zero (digit_by_turn b One (digit_by_turn c Two None)) ≡ Some Two → (a ≡ On) × (b ≡ On) × (c ≡ Down)
way_two Down b c h = absurd (cc)
way_two Stop b c h = absurd (cc)
way_two On Down c h = absurd (cc)
way_two On Stop c h = absurd (cc)
way_two On On Down h = (refl, refl, refl)
way_two On On Stop h = absurd (cc)
way_two On On On h = absurd (cc)

led_is : (below : Digit → List Digit) (way : Option Digit) (d : Digit) (s : List Digit) → going_down below way ≡ d ∷ s → (way ≡ Some d) × (below d ≡ s)
led_is below None d s h = absurd (cc)
led_is below (Some c) d s h = let e : c ≡ d = cc in (ap Some e, ap below (sym e) ∙ (let k : below c ≡ s = cc in k))

not_down_on : (t : Turn) → t ≡ On → t ≡ Down → ⊥
not_down_on t e h = let k : On ≡ Down = sym e ∙ h in cc

-- the walk below a digit at which both sides stand
walk_under : (n : ℕ) (d : Digit) (es fs : List Entry) → turn_at d (pruned es) (pruned fs) ≡ Down → walk n (after d (pruned es)) (after d (pruned fs)) ≡ walk n (pruned (below d es)) (pruned (below d fs))
walk_under n d es fs h =
    let a = down_is (pruned es (d ∷ [])) (pruned fs (d ∷ [])) h in
    walk_same n (after d (pruned es)) (pruned (below d es)) (after d (pruned fs)) (pruned (below d fs)) (below_is d es a.left a.left_is).1 (below_is d fs a.right a.right_is).1

-- where both sides stand apart, their hashes are two
hashes_apart : (d : Digit) (es fs : List Entry) → turn_at d (pruned es) (pruned fs) ≡ Down → xor (below d es) [] ≡ xor (below d fs) [] → ⊥
hashes_apart d es fs h e =
    let a = down_is (pruned es (d ∷ [])) (pruned fs (d ∷ [])) h in
    let l : xor (below d es) [] ≡ a.left = head_hash (below d es) a.left (below_is d es a.left a.left_is).0 in
    let r : xor (below d fs) [] ≡ a.right = head_hash (below d fs) a.right (below_is d fs a.right a.right_is).0 in
    let same : a.left ≡ a.right = sym l ∙ e ∙ r in
    let t : eqb a.left a.right ≡ true = eq-eqb a.left a.right same in
    let k : true ≡ false = sym t ∙ a.apart in
    cc

larger_one : (es fs : List Entry) → Agree (below One es) (below One fs) → turn_at One (pruned es) (pruned fs) ≡ Down → ⊥
larger_one es fs a = same_not_down (pruned es (One ∷ [])) (pruned fs (One ∷ [])) (pruned_one es [] ∙ head_same _ _ a ∙ sym (pruned_one fs []))

larger_two : (es fs : List Entry) → Agree (below Two es) (below Two fs) → turn_at Two (pruned es) (pruned fs) ≡ Down → ⊥
larger_two es fs a = same_not_down (pruned es (Two ∷ [])) (pruned fs (Two ∷ [])) (pruned_two es [] ∙ head_same _ _ a ∙ sym (pruned_two fs []))

module _ (es fs es' fs' : List Entry) (g : Grows es es') (h : Grows fs fs') where
  smaller_zero : Agree (below Zero es) (below Zero es') → Agree (below Zero fs) (below Zero fs') → turn_at Zero (pruned es) (pruned fs) ≡ On → turn_at Zero (pruned es') (pruned fs') ≡ Down → ⊥
  smaller_zero a b on down =
      let k = down_is (pruned es' (Zero ∷ [])) (pruned fs' (Zero ∷ [])) down in
      not_down_on _ on (down_from (pruned es (Zero ∷ [])) (pruned fs (Zero ∷ []))
      record { left = k.left; right = k.right; left_is = stood_zero es es' k.left g a k.left_is; right_is = stood_zero fs fs' k.right h b k.right_is; apart = k.apart })

  smaller_one : Agree (below One es) (below One es') → Agree (below One fs) (below One fs') → turn_at One (pruned es) (pruned fs) ≡ On → turn_at One (pruned es') (pruned fs') ≡ Down → ⊥
  smaller_one a b on down =
      let k = down_is (pruned es' (One ∷ [])) (pruned fs' (One ∷ [])) down in
      not_down_on _ on (down_from (pruned es (One ∷ [])) (pruned fs (One ∷ []))
      record { left = k.left; right = k.right; left_is = stood_one es es' k.left a k.left_is; right_is = stood_one fs fs' k.right b k.right_is; apart = k.apart })

pub exchanged : (n : ℕ) (s : List Digit) (es fs es' fs' : List Entry) → Grows es es' → Grows fs fs' → walk n (pruned es) (pruned fs) ≡ s →
    AgreeBefore s es es' → AgreeBefore s fs fs' → AgreeFrom s es' fs' → (xor es' [] ≡ xor fs' [] → ⊥) → IsProperPrefix (walk n (pruned es') (pruned fs')) s
exchanged n [] es fs es' fs' g h w a b f ne = absurd (ne (f.hash []))
exchanged zero (d ∷ s) es fs es' fs' g h w a b f ne = absurd (cc)
exchanged (suc n) (Zero ∷ s) es fs es' fs' g h w a b f ne =
    let l = led_is (λ d. walk n (after d (pruned es)) (after d (pruned fs))) (way_down (pruned es) (pruned fs)) Zero s w in
    let down = way_zero _ _ _ l.0 in
    walk_only n Zero s (pruned es') (pruned fs') _
    (only_this Zero (turn_at Zero (pruned es') (pruned fs')) _ (only_other Zero One _ (turn_at One (pruned es') (pruned fs')) _ (larger_one es' fs' f.1) (only_other Zero Two _ (turn_at Two (pruned es') (pruned fs')) None (larger_two es' fs' f.2) tt)))
    (λ t. subst (λ p. IsProperPrefix p s) (sym (walk_under n Zero es' fs' t)) (exchanged n s (below Zero es) (below Zero fs) (below Zero es') (below Zero fs') (grown_below Zero es es' g) (grown_below Zero fs fs' h) (sym (walk_under n Zero es fs down) ∙ l.1) a b f.0 (hashes_apart Zero es' fs' t)))
exchanged (suc n) (One ∷ s) es fs es' fs' g h w a b f ne =
    let l = led_is (λ d. walk n (after d (pruned es)) (after d (pruned fs))) (way_down (pruned es) (pruned fs)) One s w in
    let down = way_one _ _ _ l.0 in
    walk_only n One s (pruned es') (pruned fs') _
    (only_other One Zero _ (turn_at Zero (pruned es') (pruned fs')) _ (smaller_zero es fs es' fs' g h a.0 b.0 down.0) (only_this One (turn_at One (pruned es') (pruned fs')) _ (only_other One Two _ (turn_at Two (pruned es') (pruned fs')) None (larger_two es' fs' f.1) tt)))
    (λ t. subst (λ p. IsProperPrefix p s) (sym (walk_under n One es' fs' t)) (exchanged n s (below One es) (below One fs) (below One es') (below One fs') (grown_below One es es' g) (grown_below One fs fs' h) (sym (walk_under n One es fs down.1) ∙ l.1) a.1 b.1 f.0 (hashes_apart One es' fs' t)))
exchanged (suc n) (Two ∷ s) es fs es' fs' g h w a b f ne =
    let l = led_is (λ d. walk n (after d (pruned es)) (after d (pruned fs))) (way_down (pruned es) (pruned fs)) Two s w in
    let down = way_two _ _ _ l.0 in
    walk_only n Two s (pruned es') (pruned fs') _
    (only_other Two Zero _ (turn_at Zero (pruned es') (pruned fs')) _ (smaller_zero es fs es' fs' g h a.0 b.0 down.0) (only_other Two One _ (turn_at One (pruned es') (pruned fs')) _ (smaller_one es fs es' fs' g h a.1 b.1 down.1) (only_this Two (turn_at Two (pruned es') (pruned fs')) None tt)))
    (λ t. subst (λ p. IsProperPrefix p s) (sym (walk_under n Two es' fs' t)) (exchanged n s (below Two es) (below Two fs) (below Two es') (below Two fs') (grown_below Two es es' g) (grown_below Two fs fs' h) (sym (walk_under n Two es fs down.2) ∙ l.1) a.2 b.2 f (hashes_apart Two es' fs' t)))
