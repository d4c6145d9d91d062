-- A round can be made from any minute on.
use Rattle.std.proofs.Common.{◌≡◌, ℕ, List, [], ◌∷◌, ◌++◌, filter, Bool, true, false, not, cond, refl, sym, ap, ◌∙◌, subst, append_assoc, IsPermutation}
use Rattle.std.proofs.lemmas.List.Elements.{filter-append}
use Rattle.std.proofs.lemmas.List.Sorted.{IsPermutation-refl, IsPermutation-append_comm, IsPermutation-append_right}
use Rattle.minute_trie.specs.Trie.{Pair, ArePairs}
use Rattle.minute_trie.specs.Rounds.{IsGrown, IsRound, is_before, is_from}

none_before : (t : Pair → Bool) (ps : List Pair) → filter t (filter (λ p. not (t p)) ps) ≡ []
none_before t [] = refl
none_before t (p ∷ ps) = go (t p) refl (none_before t ps) where
  go : (b : Bool) → t p ≡ b → filter t (filter (λ q. not (t q)) ps) ≡ [] → filter t (cond (not b) (p ∷ filter (λ q. not (t q)) ps) (filter (λ q. not (t q)) ps)) ≡ []
  go true e h = h
  go false e h = subst (λ b. cond b (p ∷ filter t (filter (λ q. not (t q)) ps)) (filter t (filter (λ q. not (t q)) ps)) ≡ []) (sym e) h

all_from : (t : Pair → Bool) (ps : List Pair) → filter t (filter t ps) ≡ filter t ps
all_from t [] = refl
all_from t (p ∷ ps) = go (t p) refl (all_from t ps) where
  go : (b : Bool) → t p ≡ b → filter t (filter t ps) ≡ filter t ps → filter t (cond b (p ∷ filter t ps) (filter t ps)) ≡ cond b (p ∷ filter t ps) (filter t ps)
  go true e h = subst (λ b. cond b (p ∷ filter t (filter t ps)) (filter t (filter t ps)) ≡ p ∷ filter t ps) (sym e) (ap (λ qs. p ∷ qs) h)
  go false e h = h

no_more : (ps : List Pair) → ps ++ [] ≡ ps
no_more [] = refl
no_more (p ∷ ps) = ap (λ qs. p ∷ qs) (no_more ps)

grown : (m : ℕ) (ps qs : List Pair) → IsGrown m ps (filter (is_from m) qs) (ps ++ filter (is_from m) qs)
grown m ps qs = record {
  all = IsPermutation-refl (ps ++ filter (is_from m) qs);
  before = subst (λ xs. IsPermutation (filter (is_before m) ps) xs)
      (sym (filter-append (is_before m) ps (filter (is_from m) qs) ∙ ap (λ xs. filter (is_before m) ps ++ xs) (none_before (is_before m) qs) ∙ no_more (filter (is_before m) ps)))
      (IsPermutation-refl (filter (is_before m) ps));
}

from_both : (m : ℕ) (ps qs : List Pair) → filter (is_from m) (ps ++ filter (is_from m) qs) ≡ filter (is_from m) ps ++ filter (is_from m) qs
from_both m ps qs = filter-append (is_from m) ps (filter (is_from m) qs) ∙ ap (λ xs. filter (is_from m) ps ++ xs) (all_from (is_from m) qs)

from_common : (m : ℕ) (common ps qs : List Pair) →
    filter (is_from m) ((common ++ ps) ++ filter (is_from m) qs) ≡ filter (is_from m) common ++ (filter (is_from m) ps ++ filter (is_from m) qs)
from_common m common ps qs =
    from_both m (common ++ ps) qs ∙ ap (λ xs. xs ++ filter (is_from m) qs) (filter-append (is_from m) common ps)
    ∙ append_assoc (filter (is_from m) common) (filter (is_from m) ps) (filter (is_from m) qs)

pub made : (m : ℕ) (common mine theirs : List Pair) →
    IsRound m (common ++ mine) (filter (is_from m) theirs) ((common ++ mine) ++ filter (is_from m) theirs)
    (common ++ theirs) (filter (is_from m) mine) ((common ++ theirs) ++ filter (is_from m) mine)
made m common mine theirs = record {
  mine_grown = grown m (common ++ mine) theirs;
  theirs_grown = grown m (common ++ theirs) mine;
  level = subst (λ xs. IsPermutation xs (filter (is_from m) ((common ++ theirs) ++ filter (is_from m) mine))) (sym (from_common m common mine theirs))
      (subst (λ ys. IsPermutation (filter (is_from m) common ++ (filter (is_from m) mine ++ filter (is_from m) theirs)) ys) (sym (from_common m common theirs mine))
      (IsPermutation-append_right (filter (is_from m) common) _ _ (IsPermutation-append_comm (filter (is_from m) mine) (filter (is_from m) theirs))));
}

filtered_pairs : (t : Pair → Bool) (ps : List Pair) → ArePairs ps → ArePairs (filter t ps)
filtered_pairs t [] a = tt
filtered_pairs t (p ∷ ps) a = go (t p) (filtered_pairs t ps a.1) where
  go : (b : Bool) → ArePairs (filter t ps) → ArePairs (cond b (p ∷ filter t ps) (filter t ps))
  go true h = (a.0, h)
  go false h = h

pairs_joined : (ps qs : List Pair) → ArePairs ps → ArePairs qs → ArePairs (ps ++ qs)
pairs_joined [] qs a b = b
pairs_joined (p ∷ ps) qs a b = (a.0, pairs_joined ps qs a.1 b)

pub pairs_then : (m : ℕ) (mine theirs : List Pair) → ArePairs mine → ArePairs theirs → ArePairs (mine ++ filter (is_from m) theirs)
pairs_then m mine theirs a b = pairs_joined mine (filter (is_from m) theirs) a (filtered_pairs (is_from m) theirs b)
