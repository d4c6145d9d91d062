-- What a pruned trie holds below each digit.
use Rattle.std.proofs.Common.{◌≡◌, ℕ, suc, List, [], ◌∷◌, ◌++◌, map, filter, length, Option, Some, None, Bool, true, false, ◌&&◌, ◌||◌, not, nat_le, cond, refl, ap, ◌∙◌}
use Rattle.std.specs.List.{list_any, list_all}
use Rattle.minute_trie.specs.declared.key.Digit.{Digit}
use Rattle.minute_trie.specs.declared.key.Digit.TheVariants.{Zero, One, Two}
use Rattle.minute_trie.specs.Key.{same_digit}
use Rattle.minute_trie.specs.Pruned.{Entry, begins, lies_below, xor_all, hash_of, xor, present, prefixes, greater_from, stays, kept, pruned}

abbrev pub behind : Digit → List Digit → ℕ → List Entry → List Entry
behind d [] hash es = es
behind d (c ∷ key) hash es = cond (same_digit c d) ((key, hash) ∷ es) es

-- the entries whose key begins with d, with the rest of it
abbrev pub below : Digit → List Entry → List Entry
below d [] = []
below d (e ∷ es) = behind d e.0 e.1 (below d es)

-- what the pruned trie holds, and nothing where there are no entries
abbrev pub pruned_below : List Entry → List Digit → Option ℕ
pruned_below [] p = None
pruned_below (e ∷ es) p = pruned (e ∷ es) p

abbrev pub has : List Entry → Bool
has [] = false
has (e ∷ es) = true

abbrev pub has_both : List Entry → Bool
has_both es = has (below One es) && has (below Two es)

any_behind : (d : Digit) (p : List Digit) (key : List Digit) (hash : ℕ) (rest : List Entry) → (begins key (d ∷ p) || list_any (lies_below p) rest) ≡ list_any (lies_below p) (behind d key hash rest)
any_behind d p [] hash rest = refl
any_behind d p (c ∷ key) hash rest =
    elim (same_digit c d) as (λ b. ((b && begins key p) || list_any (lies_below p) rest) ≡ list_any (lies_below p) (cond b ((key, hash) ∷ rest) rest)) [
      | true ↦ refl
      | false ↦ refl
    ]

pub any_below : (d : Digit) (p : List Digit) (es : List Entry) → list_any (lies_below (d ∷ p)) es ≡ list_any (lies_below p) (below d es)
any_below d p [] = refl
any_below d p (e ∷ es) = ap (λ b. begins e.0 (d ∷ p) || b) (any_below d p es) ∙ any_behind d p e.0 e.1 (below d es)

abbrev hashes : List Digit → List Entry → List ℕ
hashes p es = map hash_of (filter (lies_below p) es)

pub present_below : (es : List Entry) (d c : Digit) (p : List Digit) → present es (d ∷ c ∷ p) ≡ present (below d es) (c ∷ p)
present_below es d c p = any_below d (c ∷ p) es

pub any_all : (es : List Entry) → list_any (lies_below []) es ≡ has es
any_all [] = refl
any_all (e ∷ es) = refl

pub present_one : (es : List Entry) (d : Digit) → present es (d ∷ []) ≡ has (below d es)
present_one es d = any_below d [] es ∙ any_all (below d es)

counted : (b : Bool) (x y : List Digit) (xs ys : List (List Digit)) → length xs ≡ length ys → length (cond b (x ∷ xs) xs) ≡ length (cond b (y ∷ ys) ys)
counted true x y xs ys e = ap suc e
counted false x y xs ys e = e

count_below : (es : List Entry) (d c : Digit) (ps : List (List Digit)) → length (filter (present es) (map (λ q. d ∷ q) (map (λ q. c ∷ q) ps))) ≡ length (filter (present (below d es)) (map (λ q. c ∷ q) ps))
count_below es d c [] = refl
count_below es d c (p ∷ ps) = rw (any_below d (c ∷ p) es) (counted _ _ _ _ _ (count_below es d c ps))

tested : (b : Bool) (xs ys : List (List Digit)) → length xs ≡ length ys → (b && nat_le (length xs) 1) ≡ (b && nat_le (length ys) 1)
tested b xs ys e = ap (λ n. b && nat_le n 1) e

stays_below : (es : List Entry) (d c : Digit) (p : List Digit) → stays es (d ∷ c ∷ p) ≡ stays (below d es) (c ∷ p)
stays_below es d Zero [] =
    rw (any_below d (Zero ∷ []) es, any_below d (One ∷ []) es, any_below d (Two ∷ []) es)
    (tested _ _ _ (counted (list_any (lies_below (One ∷ [])) (below d es)) _ _ _ _ (counted (list_any (lies_below (Two ∷ [])) (below d es)) _ _ [] [] refl)))
stays_below es d One [] =
    rw (any_below d (One ∷ []) es, any_below d (Two ∷ []) es) (tested _ _ _ (counted (list_any (lies_below (Two ∷ [])) (below d es)) _ _ [] [] refl))
stays_below es d Two [] = rw (any_below d (Two ∷ []) es) refl
stays_below es d c (e ∷ p) = rw (any_below d (c ∷ e ∷ p) es) (tested _ _ _ (count_below es d c (greater_from e p)))

all_stays_below : (es : List Entry) (d c : Digit) (ps : List (List Digit)) → list_all (stays es) (map (λ q. d ∷ q) (map (λ q. c ∷ q) ps)) ≡ list_all (stays (below d es)) (map (λ q. c ∷ q) ps)
all_stays_below es d c [] = refl
all_stays_below es d c (p ∷ ps) = rw (stays_below es d c p, all_stays_below es d c ps) refl

kept_tail : (es : List Entry) (d : Digit) (p : List Digit) → list_all (stays es) (map (λ q. d ∷ q) (prefixes p)) ≡ kept (below d es) p
kept_tail es d [] = refl
kept_tail es d (c ∷ p) = rw (stays_below es d c [], all_stays_below es d c (prefixes p)) refl

pub kept_below : (es : List Entry) (d : Digit) (p : List Digit) → kept es (d ∷ p) ≡ (stays es (d ∷ []) && kept (below d es) p)
kept_below es d p = ap (λ b. stays es (d ∷ []) && b) (kept_tail es d p)

filter_behind : (d : Digit) (p : List Digit) (key : List Digit) (hash : ℕ) (rest : List Entry) →
    map hash_of (cond (begins key (d ∷ p)) ((key, hash) ∷ filter (lies_below p) rest) (filter (lies_below p) rest)) ≡ hashes p (behind d key hash rest)
filter_behind d p [] hash rest = refl
filter_behind d p (c ∷ key) hash rest =
    elim (same_digit c d) as (λ b. map hash_of (cond (b && begins key p) ((c ∷ key, hash) ∷ filter (lies_below p) rest) (filter (lies_below p) rest)) ≡ hashes p (cond b ((key, hash) ∷ rest) rest)) [
      | true ↦ elim (begins key p) as (λ b. map hash_of (cond b ((c ∷ key, hash) ∷ filter (lies_below p) rest) (filter (lies_below p) rest)) ≡ map hash_of (cond b ((key, hash) ∷ filter (lies_below p) rest) (filter (lies_below p) rest))) [
        | true ↦ refl
        | false ↦ refl
      ]
      | false ↦ refl
    ]

picked : (b : Bool) (e e' : Entry) (xs ys : List Entry) → e.1 ≡ e'.1 → map hash_of xs ≡ map hash_of ys → map hash_of (cond b (e ∷ xs) xs) ≡ map hash_of (cond b (e' ∷ ys) ys)
picked true e e' xs ys h k = cc
picked false e e' xs ys h k = k

pub hashes_below : (d : Digit) (p : List Digit) (es : List Entry) → hashes (d ∷ p) es ≡ hashes p (below d es)
hashes_below d p [] = refl
hashes_below d p (e ∷ es) = picked (begins e.0 (d ∷ p)) e (e.0, e.1) _ _ refl (hashes_below d p es) ∙ filter_behind d p e.0 e.1 (below d es)

pub xor_below : (d : Digit) (p : List Digit) (es : List Entry) → xor es (d ∷ p) ≡ xor (below d es) p
xor_below d p es = ap xor_all (hashes_below d p es)

pub stays_two : (es : List Entry) → stays es (Two ∷ []) ≡ has (below Two es)
stays_two es = rw (present_one es Two) (elim (has (below Two es)) as (λ b. (b && true) ≡ b) [ true ↦ refl | false ↦ refl ])

few : (a b : Bool) → (a && nat_le (length (cond b ((Two ∷ []) ∷ []) [])) 1) ≡ a
few true true = refl
few true false = refl
few false b = refl

pub stays_one : (es : List Entry) → stays es (One ∷ []) ≡ has (below One es)
stays_one es = rw (present_one es One, present_one es Two) (few (has (below One es)) (has (below Two es)))

few_of_two : (a b c : Bool) → (a && nat_le (length (cond b ((One ∷ []) ∷ cond c ((Two ∷ []) ∷ []) []) (cond c ((Two ∷ []) ∷ []) []))) 1) ≡ (a && not (b && c))
few_of_two false b c = refl
few_of_two true true true = refl
few_of_two true true false = refl
few_of_two true false true = refl
few_of_two true false false = refl

pub stays_zero : (es : List Entry) → stays es (Zero ∷ []) ≡ (has (below Zero es) && not (has (below One es) && has (below Two es)))
stays_zero es = rw (present_one es Zero, present_one es One, present_one es Two) (few_of_two (has (below Zero es)) (has (below One es)) (has (below Two es)))

from_has : (es : List Entry) (p : List Digit) → cond (has es && kept es p) (Some (xor es p)) None ≡ pruned_below es p
from_has [] p = refl
from_has (e ∷ es) p = refl

pub pruned_two : (es : List Entry) (p : List Digit) → pruned es (Two ∷ p) ≡ pruned_below (below Two es) p
pruned_two es p = rw (kept_below es Two p, xor_below Two p es, stays_two es) (from_has (below Two es) p)

pub pruned_one : (es : List Entry) (p : List Digit) → pruned es (One ∷ p) ≡ pruned_below (below One es) p
pruned_one es p = rw (kept_below es One p, xor_below One p es, stays_one es) (from_has (below One es) p)

from_both : (both : Bool) (es : List Entry) (p : List Digit) → cond ((has es && not both) && kept es p) (Some (xor es p)) None ≡ cond both None (pruned_below es p)
from_both true [] p = refl
from_both true (e ∷ es) p = refl
from_both false [] p = refl
from_both false (e ∷ es) p = refl

pub pruned_zero : (es : List Entry) (p : List Digit) → pruned es (Zero ∷ p) ≡ cond (has (below One es) && has (below Two es)) None (pruned_below (below Zero es) p)
pruned_zero es p = rw (kept_below es Zero p, xor_below Zero p es, stays_zero es) (from_both (has (below One es) && has (below Two es)) (below Zero es) p)

behind_append : (d : Digit) (key : List Digit) (hash : ℕ) (xs ys : List Entry) → behind d key hash (xs ++ ys) ≡ behind d key hash xs ++ ys
behind_append d [] hash xs ys = refl
behind_append d (c ∷ key) hash xs ys = elim (same_digit c d) as (λ b. cond b ((key, hash) ∷ (xs ++ ys)) (xs ++ ys) ≡ cond b ((key, hash) ∷ xs) xs ++ ys) [ true ↦ refl | false ↦ refl ]

pub below_append : (d : Digit) (es fs : List Entry) → below d (es ++ fs) ≡ below d es ++ below d fs
below_append d [] fs = refl
below_append d (e ∷ es) fs = ap (behind d e.0 e.1) (below_append d es fs) ∙ behind_append d e.0 e.1 (below d es) (below d fs)
