-- The test for a part of a text says whether the part stands there.
use Rattle.std.proofs.Common.{◌≡◌, ℕ, List, [], ◌∷◌, ◌++◌, true, ◌==◌, refl, ap, sym, ◌∙◌, inl, inr, Decides}
use Rattle.std.specs.Str.Iter.{HasSubslice}
use Rattle.std.proofs.lemmas.Bool.{and_parts, and_from, or_cases, or_left, or_right, eqb-true, eq-eqb}
use Rattle.std.specs.Prelude.{◌↔◌, Bool}
use Rattle.std.proofs.lemmas.Slice.Eq.{bytes_eq-Decides}
use Rattle.rule_engine.specs.Conditions.{begins, has_part, is_same_text, TextsAreCompared}

front : (part text : List ℕ) → begins part text ≡ true → (b : List ℕ) × (text ≡ part ++ b)
front [] text t = (text, refl)
front (p ∷ part) [] t = absurd (cc)
front (p ∷ part) (c ∷ text) t =
    let both = and_parts (p == c) (begins part text) t in
    let rest = front part text both.1 in
    (rest.0, ap (λ x. x ∷ text) (sym (eqb-true p c both.0)) ∙ ap (λ xs. p ∷ xs) rest.1)

begins_front : (part b : List ℕ) → begins part (part ++ b) ≡ true
begins_front [] b = refl
begins_front (p ∷ part) b = and_from (p == p) (begins part (part ++ b)) (eq-eqb p p refl) (begins_front part b)

stands : (part text : List ℕ) → has_part part text ≡ true → HasSubslice text part
stands part [] t = let f = front part [] t in ([], f.0, f.1)
stands part (c ∷ text) t = elim (or_cases (begins part (c ∷ text)) (has_part part text) t) [
  | inl s ↦ let f = front part (c ∷ text) s in ([], f.0, f.1)
  | inr s ↦ let r = stands part text s in (c ∷ r.0, r.1, ap (λ xs. c ∷ xs) r.2)
]

pub at_front : (part text : List ℕ) → begins part text ≡ true → has_part part text ≡ true
at_front part [] t = t
at_front part (c ∷ text) t = or_left (begins part (c ∷ text)) (has_part part text) t

found : (part a b : List ℕ) → has_part part (a ++ (part ++ b)) ≡ true
found part [] b = at_front part (part ++ b) (begins_front part b)
found part (c ∷ a) b = or_right (begins part (c ∷ (a ++ (part ++ b)))) (has_part part (a ++ (part ++ b))) (found part a b)

pub has_part-Decides : (part text : List ℕ) → Decides (has_part part text) (HasSubslice text part)
has_part-Decides part text = (stands part text, λ s. ap (has_part part) s.2 ∙ found part s.0 s.1)

pub texts_compared : TextsAreCompared
texts_compared = record {
  same = λ a b. decided (is_same_text a b) (bytes_eq-Decides _ _);
  part = λ part text. decided (has_part part text) (has_part-Decides part text);
}
  where
    decided : {P : Type 0} (b : Bool) → Decides b P → (b ≡ true) ↔ P
    decided b d = d
