-- Entries before and from a string on, at each node of the walk; and what stays pruned.
use Rattle.std.proofs.Common.{◌≡◌, ℕ, zero, suc, ◌+◌, ◌*◌, ◌/◌, ◌%◌, ◌^◌, ◌<◌, ◌≤◌, List, [], ◌∷◌, filter, Bool, true, false, ◌&&◌, ◌||◌, cond, nat_lt, refl, sym, ap, ◌∙◌, subst, arith, pow-suc, lt-ltb, le-ltb}
use Rattle.std.proofs.Math.Nat.{mod-eq_of_lt}
use Rattle.std.proofs.lemmas.Bool.Decides.{nat_tests}
use Rattle.std.proofs.lemmas.Nat.{mod-mul-add, div-add-mod'}
use Rattle.hybrid_clock.specs.Stamp.{window}
use Rattle.minute_trie.specs.declared.key.Digit.{Digit}
use Rattle.minute_trie.specs.declared.key.Digit.TheVariants.{Zero, One, Two}
use Rattle.minute_trie.specs.Key.{digit_of, key, same_digit}
use Rattle.minute_trie.specs.Diff.{digit_value, padded}
use Rattle.minute_trie.specs.Pruned.{Entry}
use Rattle.minute_trie.proofs.Agree.{Agree, AgreeBefore, AgreeFrom, is_less, precedes, before, not_before}
use Rattle.minute_trie.proofs.Pruning.{below, behind, any_below, xor_below}
use Rattle.minute_trie.proofs.Walking.{three_pos, padded_lt}

agree_below : (d : Digit) (es fs : List Entry) → Agree es fs → Agree (below d es) (below d fs)
agree_below d es fs a = record { any = λ p. sym (any_below d p es) ∙ a.any (d ∷ p) ∙ any_below d p fs; hash = λ p. sym (xor_below d p es) ∙ a.hash (d ∷ p) ∙ xor_below d p fs }

module _ (d : Digit) (t u : Entry → Bool) (same : (key : List Digit) (hash : ℕ) → t (d ∷ key, hash) ≡ u (key, hash)) where
  equal_digit : (c : Digit) → same_digit c d ≡ true → c ≡ d
  equal_digit c e = go c d e where
    go : (a b : Digit) → same_digit a b ≡ true → a ≡ b
    go Zero Zero e = refl
    go One One e = refl
    go Two Two e = refl
    go Zero One e = absurd (cc)
    go Zero Two e = absurd (cc)
    go One Zero e = absurd (cc)
    go One Two e = absurd (cc)
    go Two Zero e = absurd (cc)
    go Two One e = absurd (cc)

  one_entry : (key : List Digit) (hash : ℕ) (keep : Bool) (es rest : List Entry) → t (key, hash) ≡ keep → below d es ≡ filter u rest →
      below d (cond keep ((key, hash) ∷ es) es) ≡ filter u (behind d key hash rest)
  one_entry [] hash true es rest k h = h
  one_entry [] hash false es rest k h = h
  one_entry (c ∷ key) hash keep es rest k h = by_digit (same_digit c d) refl
    where
      by_digit : (b : Bool) → same_digit c d ≡ b → below d (cond keep ((c ∷ key, hash) ∷ es) es) ≡ filter u (cond b ((key, hash) ∷ rest) rest)
      by_digit true e = kept keep (sym (same key hash) ∙ ap (λ x. t (x ∷ key, hash)) (sym (equal_digit c e)) ∙ k)
        where
          kept : (keep : Bool) → u (key, hash) ≡ keep → below d (cond keep ((c ∷ key, hash) ∷ es) es) ≡ filter u ((key, hash) ∷ rest)
          kept true k = rw (e, k) (ap (λ xs. (key, hash) ∷ xs) h)
          kept false k = rw k h
      by_digit false e = dropped keep
        where
          dropped : (keep : Bool) → below d (cond keep ((c ∷ key, hash) ∷ es) es) ≡ filter u rest
          dropped true = rw e h
          dropped false = h

  below_filter : (es : List Entry) → below d (filter t es) ≡ filter u (below d es)
  below_filter [] = refl
  below_filter (e ∷ es) = one_entry e.0 e.1 (t e) (filter t es) (below d es) refl (below_filter es)

filter_all : (es : List Entry) → filter (λ _. true) es ≡ es
filter_all [] = refl
filter_all (e ∷ es) = ap (λ xs. e ∷ xs) (filter_all es)

-- what agrees after a test, at a digit
module _ (d : Digit) (t u : Entry → Bool) (same : (key : List Digit) (hash : ℕ) → t (d ∷ key, hash) ≡ u (key, hash)) where
  agree_part : (es fs : List Entry) → Agree (filter t es) (filter t fs) → Agree (filter u (below d es)) (filter u (below d fs))
  agree_part es fs a = subst (λ xs. Agree xs (filter u (below d fs))) (below_filter d t u same es) (subst (λ ys. Agree (below d (filter t es)) ys) (below_filter d t u same fs) (agree_below d _ _ a))

agree_whole : (d : Digit) (t : Entry → Bool) → ((key : List Digit) (hash : ℕ) → t (d ∷ key, hash) ≡ true) → (es fs : List Entry) → Agree (filter t es) (filter t fs) → Agree (below d es) (below d fs)
agree_whole d t same es fs a = subst (λ xs. Agree xs (below d fs)) (filter_all (below d es)) (subst (λ ys. Agree (filter (λ _. true) (below d es)) ys) (filter_all (below d fs)) (agree_part d t (λ _. true) same es fs a))

pub agree_before : (s : List Digit) (es fs : List Entry) → Agree (filter (before s) es) (filter (before s) fs) → AgreeBefore s es fs
agree_before [] es fs a = tt
agree_before (Zero ∷ s) es fs a = agree_before s _ _ (agree_part Zero (before (Zero ∷ s)) (before s) (λ k h. refl) es fs a)
agree_before (One ∷ s) es fs a =
    (agree_whole Zero (before (One ∷ s)) (λ k h. refl) es fs a, agree_before s _ _ (agree_part One (before (One ∷ s)) (before s) (λ k h. refl) es fs a))
agree_before (Two ∷ s) es fs a = (
  agree_whole Zero (before (Two ∷ s)) (λ k h. refl) es fs a,
  agree_whole One (before (Two ∷ s)) (λ k h. refl) es fs a,
  agree_before s _ _ (agree_part Two (before (Two ∷ s)) (before s) (λ k h. refl) es fs a),
)

pub agree_from : (s : List Digit) (es fs : List Entry) → Agree (filter (not_before s) es) (filter (not_before s) fs) → AgreeFrom s es fs
agree_from [] es fs a = subst (λ xs. Agree xs fs) (filter_all es) (subst (λ ys. Agree (filter (λ _. true) es) ys) (filter_all fs) a)
agree_from (Zero ∷ s) es fs a = (
  agree_from s _ _ (agree_part Zero (not_before (Zero ∷ s)) (not_before s) (λ k h. refl) es fs a),
  agree_whole One (not_before (Zero ∷ s)) (λ k h. refl) es fs a,
  agree_whole Two (not_before (Zero ∷ s)) (λ k h. refl) es fs a,
)
agree_from (One ∷ s) es fs a =
    (agree_from s _ _ (agree_part One (not_before (One ∷ s)) (not_before s) (λ k h. refl) es fs a), agree_whole Two (not_before (One ∷ s)) (λ k h. refl) es fs a)
agree_from (Two ∷ s) es fs a = agree_from s _ _ (agree_part Two (not_before (Two ∷ s)) (not_before s) (λ k h. refl) es fs a)

-- ---- minutes

abbrev pub digits : ℕ → ℕ → List Digit
digits zero m = []
digits (suc n) m = digit_of (m / 3 ^ n % 3) ∷ digits n m

regrouped : (a b t r : ℕ) → (a * 3 + b) * t + r ≡ a * (t * 3) + (b * t + r)
regrouped a b t r = omega arith

below_three : (b t r : ℕ) → b < 3 → r < t → b * t + r < t * 3
below_three zero t r h k = omega arith
below_three (suc zero) t r h k = omega arith
below_three (suc (suc zero)) t r h k = omega arith
below_three (suc (suc (suc b))) t r h k = absurd (omega arith)

pub mod_split : (m t : ℕ) → 0 < t → m % (t * 3) ≡ m / t % 3 * t + m % t
mod_split m t h =
    let q : ℕ = m / t in
    let small : q % 3 < 3 = omega arith in
    let rest : m % t < t = omega arith in
    let a : m ≡ (q / 3 * 3 + q % 3) * t + m % t = sym (div-add-mod' m t) ∙ ap (λ x. x * t + m % t) (sym (div-add-mod' q 3)) in
    ap (λ x. x % (t * 3)) (a ∙ regrouped (q / 3) (q % 3) t (m % t)) ∙ mod-mul-add (q / 3) (t * 3) (q % 3 * t + m % t) (below_three (q % 3) t (m % t) small rest)

pub key_is : (m : ℕ) → key m ≡ digits 16 m
unfolding key
key_is m = refl

shifted : (x y r k : ℕ) (b : Bool) → x ≡ y → nat_lt r k ≡ b → nat_lt (x + r) (y + k) ≡ b
shifted x y r k b e h = rw e (sym (same y r k) ∙ h) where
  same : (y r k : ℕ) → nat_lt r k ≡ nat_lt (y + r) (y + k)
  same y r k = grind (arith, nat_tests)

compared : (q : ℕ) (d : Digit) (t r k : ℕ) (b : Bool) → q < 3 → r < t → k < t → nat_lt r k ≡ b →
    nat_lt (q * t + r) (digit_value d * t + k) ≡ (is_less (digit_of q) d || (same_digit (digit_of q) d && b))
compared zero Zero t r k b l h i e = shifted _ _ r k b refl e
compared (suc zero) One t r k b l h i e = shifted _ _ r k b refl e
compared (suc (suc zero)) Two t r k b l h i e = shifted _ _ r k b refl e
compared zero One t r k b l h i e = let f : 0 * t + r < 1 * t + k = omega arith in lt-ltb _ _ f
compared zero Two t r k b l h i e = let f : 0 * t + r < 2 * t + k = omega arith in lt-ltb _ _ f
compared (suc zero) Two t r k b l h i e = let f : 1 * t + r < 2 * t + k = omega arith in lt-ltb _ _ f
compared (suc zero) Zero t r k b l h i e = let f : 0 * t + k ≤ 1 * t + r = omega arith in le-ltb _ _ f
compared (suc (suc zero)) Zero t r k b l h i e = let f : 0 * t + k ≤ 2 * t + r = omega arith in le-ltb _ _ f
compared (suc (suc zero)) One t r k b l h i e = let f : 1 * t + k ≤ 2 * t + r = omega arith in le-ltb _ _ f
compared (suc (suc (suc q))) d t r k b l h i e = absurd (omega arith)

-- a minute is less than the number of a string where its key precedes the string
pub lex_digits : (n m : ℕ) (s : List Digit) → nat_lt (m % 3 ^ n) (padded n s) ≡ precedes (digits n m) s
lex_digits n m [] = le-ltb _ _ (omega arith)
lex_digits zero m (d ∷ s) = le-ltb _ _ (omega arith)
lex_digits (suc n) m (d ∷ s) =
    let small : m / 3 ^ n % 3 < 3 = omega arith in
    let pos = three_pos n in
    let rest : m % 3 ^ n < 3 ^ n = omega arith in
    rw (pow-suc, mod_split m (3 ^ n) pos) (compared (m / 3 ^ n % 3) d (3 ^ n) (m % 3 ^ n) (padded n s) _ small rest (padded_lt n s) (lex_digits n m s))

pub earlier : (m : ℕ) (s : List Digit) → m < window → nat_lt m (padded 16 s) ≡ precedes (key m) s
earlier m s h = rw (key_is m) (ap (λ x. nat_lt x (padded 16 s)) (sym (mod-eq_of_lt h)) ∙ lex_digits 16 m s)
