-- The moment that is told is that of the first minute whose key begins with the place of the difference.
use Rattle.std.proofs.Common.{◌≡◌, ◌≢◌, ◌↔◌, ◌≤◌, ℕ, zero, suc, ◌+◌, ◌*◌, ◌/◌, ◌%◌, ◌^◌, List, [], ◌∷◌, length, Option, Some, None, Bool, true, false, ◌&&◌, ◌||◌, cond, eq-eqb, nat_lt, refl, sym, ap, ap₂, ◌∙◌, arith, pow-suc}
use Rattle.std.proofs.lemmas.Bool.{eqb-true}
use Rattle.std.proofs.Math.Nat.{mul-add-div_right, mul-add-mod_self_right}
use Rattle.std.proofs.lemmas.Nat.{div-mul-add}
use Rattle.std.proofs.lemmas.Bool.Decides.{nat_tests}
use Rattle.minute_trie.specs.declared.key.Digit.{Digit}
use Rattle.minute_trie.specs.declared.key.Digit.TheVariants.{Zero, One, Two}
use Rattle.minute_trie.specs.Key.{digit_of, key, same_digit}
use Rattle.minute_trie.specs.Pruned.{begins}
use Rattle.minute_trie.specs.Held.{Held}
use Rattle.minute_trie.specs.Diff.{digit_value, padded, same_hash, minute_of, end_of_walk, difference}
use Rattle.minute_trie.specs.Laws.{IsMomentOf}
use Rattle.minute_trie.proofs.Agree.{is_less, precedes}
use Rattle.minute_trie.proofs.Walking.{three_pos, padded_lt}
use Rattle.minute_trie.proofs.Splitting.{digits, key_is, lex_digits}
use Rattle.minute_trie.proofs.ByMinute.{within}

-- ---- the number of a string has a key that begins with it

digits_over : (n a r : ℕ) → digits n (a * 3 ^ n + r) ≡ digits n r
digits_over zero a r = refl
digits_over (suc n) a r =
    let t = three_pos n in
    let same : a * 3 ^ suc n + r ≡ a * 3 * 3 ^ n + r = rw pow-suc (omega arith) in
    let q : (a * 3 * 3 ^ n + r) / 3 ^ n ≡ a * 3 + r / 3 ^ n = mul-add-div_right t (a * 3) r in
    ap (digits (suc n)) same ∙ ap₂ (λ d ds. d ∷ ds) (ap digit_of (ap (λ x. x % 3) q ∙ mul-add-mod_self_right a 3 (r / 3 ^ n))) (digits_over n (a * 3) r)

digit_back : (d : Digit) → digit_of (digit_value d % 3) ≡ d
digit_back Zero = refl
digit_back One = refl
digit_back Two = refl

same_itself : (d : Digit) → same_digit d d ≡ true
same_itself Zero = refl
same_itself One = refl
same_itself Two = refl

begins_there : (n : ℕ) (s : List Digit) → length s ≤ n → begins (digits n (padded n s)) s ≡ true
begins_there n [] l = refl
begins_there zero (d ∷ s) l = absurd (omega arith)
begins_there (suc n) (d ∷ s) l =
    let first : digit_of ((digit_value d * 3 ^ n + padded n s) / 3 ^ n % 3) ≡ d = ap (λ x. digit_of (x % 3)) (div-mul-add (digit_value d) (3 ^ n) (padded n s) (padded_lt n s)) ∙ digit_back d in
    ap₂ (λ c ds. same_digit c d && begins ds s) first (digits_over n (digit_value d) (padded n s))
    ∙ ap₂ (λ a b. a && b) (same_itself d) (begins_there n s (omega arith))

-- ---- and no lesser number has

not_less : (c d : Digit) → same_digit c d ≡ true → is_less c d ≡ false
not_less Zero Zero h = refl
not_less Zero One h = absurd (cc)
not_less Zero Two h = absurd (cc)
not_less One Zero h = refl
not_less One One h = refl
not_less One Two h = absurd (cc)
not_less Two Zero h = refl
not_less Two One h = refl
not_less Two Two h = refl

both_true : (a b : Bool) → (a && b) ≡ true → (a ≡ true) × (b ≡ true)
both_true true b h = (refl, h)
both_true false b h = absurd (cc)

not_preceding : (key s : List Digit) → begins key s ≡ true → precedes key s ≡ false
not_preceding key [] h = refl
not_preceding [] (d ∷ s) h = absurd (cc)
not_preceding (c ∷ key) (d ∷ s) h =
    let k = both_true (same_digit c d) (begins key s) h in
    ap₂ (λ a b. a || b) (not_less c d k.0) (ap₂ (λ a b. a && b) k.0 (not_preceding key s k.1))

at_most : (n m : ℕ) (s : List Digit) → begins (digits n m) s ≡ true → padded n s ≤ m
at_most n m s h =
    let k : nat_lt (m % 3 ^ n) (padded n s) ≡ false = lex_digits n m s ∙ not_preceding (digits n m) s h in
    let l : padded n s ≤ m % 3 ^ n = grind (arith, nat_tests) in
    let t = three_pos n in
    let r : m % 3 ^ n ≤ m = omega arith in
    omega arith

-- ---- what is told

same_is : (a b : Option ℕ) → same_hash a b ≡ true → a ≡ b
same_is None None h = refl
same_is None (Some y) h = absurd (cc)
same_is (Some x) None h = absurd (cc)
same_is (Some x) (Some y) h = ap Some (eqb-true x y h)

is_same : (a : Option ℕ) → same_hash a a ≡ true
is_same None = refl
is_same (Some x) = eq-eqb x x refl

pub none_told : (f g : Held) → (difference f g ≡ None) ↔ (f [] ≡ g [])
none_told f g = (told (same_hash (f []) (g [])) refl, λ e. ap (λ b. cond b None (Some (minute_of (end_of_walk f g) * 60_000))) (ap (same_hash (f [])) (sym e) ∙ is_same (f []))) where
  told : (b : Bool) → same_hash (f []) (g []) ≡ b → cond b None (Some (minute_of (end_of_walk f g) * 60_000)) ≡ None → f [] ≡ g []
  told true e h = same_is (f []) (g []) e
  told false e h = absurd (cc)

pub moment_told : (f g : Held) → f [] ≢ g [] → IsMomentOf (end_of_walk f g) (difference f g)
moment_told f g ne = (padded 16 s, told (same_hash (f []) (g [])) refl, ap (λ k. begins k s) (key_is (padded 16 s)) ∙ begins_there 16 s (within f g), λ m h. at_most 16 m s (ap (λ k. begins k s) (sym (key_is m)) ∙ h)) where
  s : List Digit
  s = end_of_walk f g

  told : (b : Bool) → same_hash (f []) (g []) ≡ b → cond b None (Some (minute_of s * 60_000)) ≡ Some (padded 16 s * 60_000)
  told true e = absurd (ne (same_is (f []) (g []) e))
  told false e = refl
