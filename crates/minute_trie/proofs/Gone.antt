-- A string that is present and was pruned stays pruned.
use Rattle.std.proofs.Common.{◌≡◌, List, [], ◌∷◌, ◌++◌, Bool, true, false, ◌&&◌, not, refl, sym, ap, ap₂, ◌∙◌}
use Rattle.minute_trie.specs.declared.key.Digit.{Digit}
use Rattle.minute_trie.specs.declared.key.Digit.TheVariants.{Zero, One, Two}
use Rattle.minute_trie.specs.Pruned.{Entry, present, stays, kept}
use Rattle.minute_trie.proofs.Pruning.{below, has, has_both, present_below, present_one, stays_zero, stays_one, stays_two, kept_below, below_append}

has_more : (es fs : List Entry) → has es ≡ true → has (es ++ fs) ≡ true
has_more [] fs h = absurd (cc)
has_more (e ∷ es) fs h = refl

has_more_below : (d : Digit) (es fs : List Entry) → has (below d es) ≡ true → has (below d (es ++ fs)) ≡ true
has_more_below d es fs h = ap has (below_append d es fs) ∙ has_more (below d es) (below d fs) h

present_rest : (es : List Entry) (d : Digit) (p : List Digit) → present es (d ∷ p) ≡ true → present (below d es) p ≡ true
present_rest es d [] h = refl
present_rest es d (c ∷ p) h = sym (present_below es d c p) ∙ h

present_head : (es : List Entry) (d : Digit) (p : List Digit) → present es (d ∷ p) ≡ true → has (below d es) ≡ true
present_head es d [] h = sym (present_one es d) ∙ h
present_head es d (c ∷ p) h = go (below d es) (sym (present_below es d c p) ∙ h) where
  go : (fs : List Entry) → present fs (c ∷ p) ≡ true → has fs ≡ true
  go [] h = absurd (cc)
  go (f ∷ fs) h = refl

second : (a b : Bool) → a ≡ true → (a && b) ≡ false → b ≡ false
second true b e h = h
second false b e h = absurd (cc)

last_false : (a b : Bool) → b ≡ false → (a && b) ≡ false
last_false true b h = h
last_false false b h = refl

gone_below : (es fs : List Entry) (d : Digit) (p : List Digit) → stays es (d ∷ []) ≡ true → kept es (d ∷ p) ≡ false →
    (kept (below d es) p ≡ false → kept (below d es ++ below d fs) p ≡ false) → kept (es ++ fs) (d ∷ p) ≡ false
gone_below es fs d p s k next =
    kept_below (es ++ fs) d p
    ∙ last_false _ _ (ap (λ gs. kept gs p) (below_append d es fs) ∙ next (second (stays es (d ∷ [])) (kept (below d es) p) s (sym (kept_below es d p) ∙ k)))

both_more : (es fs : List Entry) → has_both es ≡ true → has_both (es ++ fs) ≡ true
both_more es fs h = go (has (below One es)) (has (below Two es)) _ _ (has_more_below One es fs) (has_more_below Two es fs) h where
  go : (a b a' b' : Bool) → (a ≡ true → a' ≡ true) → (b ≡ true → b' ≡ true) → (a && b) ≡ true → (a' && b') ≡ true
  go true true a' b' f g h = ap₂ (λ x y. x && y) (f refl) (g refl)
  go true false a' b' f g h = absurd (cc)
  go false b a' b' f g h = absurd (cc)

pub gone : (es fs : List Entry) (p : List Digit) → present es p ≡ true → kept es p ≡ false → kept (es ++ fs) p ≡ false
gone es fs [] h k = absurd (cc)
gone es fs (Two ∷ p) h k = gone_below es fs Two p (stays_two es ∙ present_head es Two p h) k (gone (below Two es) (below Two fs) p (present_rest es Two p h))
gone es fs (One ∷ p) h k = gone_below es fs One p (stays_one es ∙ present_head es One p h) k (gone (below One es) (below One fs) p (present_rest es One p h))
gone es fs (Zero ∷ p) h k = by_both (has_both es) refl (gone (below Zero es) (below Zero fs) p (present_rest es Zero p h)) where
  by_both : (b : Bool) → has_both es ≡ b → (kept (below Zero es) p ≡ false → kept (below Zero es ++ below Zero fs) p ≡ false) → kept (es ++ fs) (Zero ∷ p) ≡ false
  by_both false e next = gone_below es fs Zero p (stays_zero es ∙ ap₂ (λ a b. a && not b) (present_head es Zero p h) e) k next
  by_both true e next =
      let none : stays (es ++ fs) (Zero ∷ []) ≡ false = stays_zero (es ++ fs) ∙ last_false _ _ (ap not (both_more es fs e)) in
      kept_below (es ++ fs) Zero p ∙ ap (λ a. a && kept (below Zero (es ++ fs)) p) none
