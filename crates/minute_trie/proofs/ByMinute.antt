-- The law on rounds, in minutes.
use Rattle.std.proofs.Common.{◌≡◌, ℕ, zero, suc, ◌+◌, ◌*◌, ◌≤◌, ℤ, List, [], ◌∷◌, ◌++◌, length, filter, Option, Some, None, Bool, true, false, not, cond, eqb, eq-eqb, ◌<◌, ◌||◌, ◌⊎◌, inl, inr, IsPermutation, refl, sym, ap, ◌∙◌, subst, arith}
use Rattle.std.specs.List.{list_any}
use Rattle.std.proofs.lemmas.List.Folds.{list_any-append}
use Rattle.std.proofs.lemmas.List.{map-append, length-append}
use Rattle.std.proofs.lemmas.List.Sorted.{IsPermutation-map, list_any-IsPermutation}
use Rattle.minute_trie.specs.declared.key.Digit.{Digit}
use Rattle.minute_trie.specs.Pruned.{Entry, lies_below, xor}
use Rattle.minute_trie.specs.Diff.{walk, end_of_walk, minute_of, going_down, way_down, same_hash, difference}
use Rattle.minute_trie.specs.Held.{Held, after}
use Rattle.hybrid_clock.specs.Stamp.{window}
use Rattle.minute_trie.specs.Trie.{entry_of, entries_of, trie_of, ArePairs}
use Rattle.minute_trie.specs.Rounds.{IsRound, IsProperPrefix, is_before, is_from, Sides, end_of_sides, difference_of_sides, IsRoundOfSides, AreRounds}
use Rattle.minute_trie.proofs.Agree.{Agree, Grows, before, not_before}
use Rattle.minute_trie.proofs.Order.{xor_same}
use Rattle.minute_trie.proofs.Exchange.{exchanged}
use Rattle.minute_trie.proofs.Splitting.{earlier, agree_before, agree_from}

filtered : (t : ℕ × ℤ → Bool) (u : Entry → Bool) (ps : List (ℕ × ℤ)) → ArePairs ps → ((p : ℕ × ℤ) → p.0 < window → t p ≡ u (entry_of p)) → entries_of (filter t ps) ≡ filter u (entries_of ps)
filtered t u [] w same = refl
filtered t u (p ∷ ps) w same = go (t p) (u (entry_of p)) (same p w.0.within) (filtered t u ps w.1 same) where
  go : (a b : Bool) → a ≡ b → entries_of (filter t ps) ≡ filter u (entries_of ps) → entries_of (cond a (p ∷ filter t ps) (filter t ps)) ≡ cond b (entry_of p ∷ filter u (entries_of ps)) (filter u (entries_of ps))
  go true true e h = ap (λ es. entry_of p ∷ es) h
  go false false e h = h
  go true false e h = absurd (cc)
  go false true e h = absurd (cc)

agree_of : (es fs : List Entry) → IsPermutation es fs → Agree es fs
agree_of es fs s = record { any = λ p. list_any-IsPermutation (lies_below p) es fs s; hash = xor_same es fs s }

agree_filtered : (t : ℕ × ℤ → Bool) (u : Entry → Bool) (ps qs : List (ℕ × ℤ)) → ArePairs ps → ArePairs qs → ((p : ℕ × ℤ) → p.0 < window → t p ≡ u (entry_of p)) → IsPermutation (filter t ps) (filter t qs) →
    Agree (filter u (entries_of ps)) (filter u (entries_of qs))
agree_filtered t u ps qs v w same s =
    subst (λ xs. Agree xs (filter u (entries_of qs))) (filtered t u ps v same)
    (subst (λ ys. Agree (entries_of (filter t ps)) ys) (filtered t u qs w same) (agree_of _ _ (IsPermutation-map entry_of _ _ s)))

grown_of : (ps more now : List (ℕ × ℤ)) → IsPermutation (ps ++ more) now → Grows (entries_of ps) (entries_of now)
grown_of ps more now s = record {
  any = λ p h.
      sym (list_any-IsPermutation (lies_below p) _ _ (IsPermutation-map entry_of _ _ s))
      ∙ ap (list_any (lies_below p)) (map-append entry_of ps more) ∙ list_any-append (lies_below p) (entries_of ps) (entries_of more) ∙ ap (λ b. b || list_any (lies_below p) (entries_of more)) h;
}

nearer : (mine got mine_now theirs taken theirs_now : List (ℕ × ℤ)) (s : List Digit) → ArePairs mine → ArePairs theirs → ArePairs mine_now → ArePairs theirs_now →
    walk 16 (trie_of mine) (trie_of theirs) ≡ s → IsRound (minute_of s) mine got mine_now theirs taken theirs_now →
    (xor (entries_of mine_now) [] ≡ xor (entries_of theirs_now) [] → ⊥) → IsProperPrefix (walk 16 (trie_of mine_now) (trie_of theirs_now)) s
nearer mine got mine_now theirs taken theirs_now s a b c d w r ne =
    exchanged 16 s (entries_of mine) (entries_of theirs) (entries_of mine_now) (entries_of theirs_now) (grown_of mine got mine_now r.mine_grown.all) (grown_of theirs taken theirs_now r.theirs_grown.all) w
    (agree_before s _ _ (agree_filtered (is_before (minute_of s)) (before s) mine mine_now a c (λ p k. earlier p.0 s k) r.mine_grown.before))
    (agree_before s _ _ (agree_filtered (is_before (minute_of s)) (before s) theirs theirs_now b d (λ p k. earlier p.0 s k) r.theirs_grown.before))
    (agree_from s _ _ (agree_filtered (is_from (minute_of s)) (not_before s) mine_now theirs_now c d (λ p k. ap not (earlier p.0 s k)) r.level))
    ne

by_minute : (mine got mine_now theirs taken theirs_now : List (ℕ × ℤ)) → ArePairs mine → ArePairs theirs → ArePairs mine_now → ArePairs theirs_now →
    IsRound (minute_of (end_of_walk (trie_of mine) (trie_of theirs))) mine got mine_now theirs taken theirs_now →
    (difference (trie_of mine_now) (trie_of theirs_now) ≡ None) ⊎ IsProperPrefix (end_of_walk (trie_of mine_now) (trie_of theirs_now)) (end_of_walk (trie_of mine) (trie_of theirs))
unfolding end_of_walk
by_minute mine got mine_now theirs taken theirs_now a b c d r = by_hash (eqb x y) refl where
  x : ℕ
  x = xor (entries_of mine_now) []

  y : ℕ
  y = xor (entries_of theirs_now) []

  by_hash : (same : Bool) → eqb x y ≡ same →
      (cond same None (Some (minute_of (walk 16 (trie_of mine_now) (trie_of theirs_now)) * 60_000)) ≡ None)
      ⊎ IsProperPrefix (walk 16 (trie_of mine_now) (trie_of theirs_now)) (walk 16 (trie_of mine) (trie_of theirs))
  by_hash true e = inl refl
  by_hash false e = inr (nearer mine got mine_now theirs taken theirs_now _ a b c d refl r (λ same. let f : true ≡ false = sym (eq-eqb x y same) ∙ e in cc))

-- the minute whose moment is told is that of the walk
minute_told : (f g : Held) (minute : ℕ) → difference f g ≡ Some (minute * 60_000) → minute_of (end_of_walk f g) ≡ minute
minute_told f g minute = by_hash (same_hash (f []) (g [])) where
  by_hash : (b : Bool) → cond b None (Some (minute_of (end_of_walk f g) * 60_000)) ≡ Some (minute * 60_000) → minute_of (end_of_walk f g) ≡ minute
  by_hash true h = absurd (cc)
  by_hash false h = let k : minute_of (end_of_walk f g) * 60_000 ≡ minute * 60_000 = cc in omega arith

pub by_round : (s t : Sides) → ArePairs s.0 → ArePairs s.1 → ArePairs t.0 → ArePairs t.1 → IsRoundOfSides s t →
    (difference_of_sides t ≡ None) ⊎ IsProperPrefix (end_of_sides t) (end_of_sides s)
by_round s t a b c d r =
    by_minute s.0 r.2 t.0 s.1 r.3 t.1 a b c d
    (subst (λ m. IsRound m s.0 r.2 t.0 s.1 r.3 t.1) (sym (minute_told (trie_of s.0) (trie_of s.1) r.0 r.1)) r.4)

-- a walk takes no more steps than it may
led_short : (n : ℕ) (below : Digit → List Digit) (way : Option Digit) → ((d : Digit) → length (below d) ≤ n) → length (going_down below way) ≤ suc n
led_short n below None h = omega arith
led_short n below (Some d) h = let k : length (below d) ≤ n = h d in omega arith

walk_short : (n : ℕ) (f g : Held) → length (walk n f g) ≤ n
walk_short zero f g = omega arith
walk_short (suc n) f g = led_short n (λ d. walk n (after d f) (after d g)) (way_down f g) (λ d. walk_short n (after d f) (after d g))

pub within : (f g : Held) → length (end_of_walk f g) ≤ 16
unfolding end_of_walk
within f g = walk_short 16 f g

-- ---- rounds one after the other

abbrev IsSides : Sides → Type 0
IsSides s = ArePairs s.0 × ArePairs s.1

prefix_shorter : (p s : List Digit) → IsProperPrefix p s → length p < length s
prefix_shorter p s w =
    let long : length (p ++ w.0 ∷ w.1.0) ≡ length p + suc (length w.1.0) = length-append p (w.0 ∷ w.1.0) in
    let same : length s ≡ length (p ++ w.0 ∷ w.1.0) = ap length w.1.1 in
    omega arith

sides_of : (s : Sides) (rounds : List Sides) → AreRounds s rounds → IsSides s
sides_of s [] r = r
sides_of s (t ∷ rounds) r = r.0

none_after : (s : Sides) (rounds : List Sides) → difference_of_sides s ≡ None → AreRounds s rounds → length rounds ≤ 0
none_after s [] e r = omega arith
none_after s (t ∷ rounds) e r = let k : None ≡ Some (r.1.0 * 60_000) = sym e ∙ r.1.1 in absurd (cc)

-- after a round there are few more, where a place with one digit less leaves few
few_more : (n : ℕ) (s t : Sides) (rounds : List Sides) → AreRounds t rounds → length (end_of_sides s) ≤ n →
    ((m : ℕ) → length (end_of_sides t) ≤ m → length rounds ≤ suc m) →
    (difference_of_sides t ≡ None) ⊎ IsProperPrefix (end_of_sides t) (end_of_sides s) → length (t ∷ rounds) ≤ suc n
few_more n s t rounds r l next (inl e) = let k = none_after t rounds e r in omega arith
few_more zero s t rounds r l next (inr p) = let k = prefix_shorter (end_of_sides t) (end_of_sides s) p in absurd (omega arith)
few_more (suc n) s t rounds r l next (inr p) =
    let k = prefix_shorter (end_of_sides t) (end_of_sides s) p in
    let h = next n (omega arith) in
    omega arith

few_from : (n : ℕ) (s : Sides) (rounds : List Sides) → length (end_of_sides s) ≤ n → AreRounds s rounds → length rounds ≤ suc n
few_from n s [] l r = omega arith
few_from n s (t ∷ rounds) l r =
    let later = sides_of t rounds r.2 in
    few_more n s t rounds r.2 l (λ m k. few_from m t rounds k r.2) (by_round s t r.0.0 r.0.1 later.0 later.1 r.1)

pub few : (s : Sides) (rounds : List Sides) → AreRounds s rounds → length rounds ≤ 17
few s rounds r = few_from 16 s rounds (within (trie_of s.0) (trie_of s.1)) r
