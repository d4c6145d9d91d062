-- Sets into which lists are put, element after element.
use Rattle.std.proofs.Common.{◌≡◌, ℕ, ◌+◌, Bool, true, false, List, [], ◌∷◌, drop, length, refl, ap, sym, ◌∙◌, ◌≤◌, true≢false, subst}
use Rattle.std.specs.Prelude.{◌||◌, flat_map}
use Rattle.std.specs.List.{AllByRecursion}
use Rattle.std.specs.Ordering.{eq_by_cmp}
use Rattle.finite_sums.specs.Maps.{Text, text_cmp, is_among}
use Rattle.envelope_cells.proofs.Among.{same_texts, or_left, or_right, or_either, among-append}
use Rattle.envelope_cells.proofs.Lists.{none_left}

or_turn : (r f o : Bool) → (r || (f || o)) ≡ ((f || r) || o)
or_turn true true o = refl
or_turn true false o = refl
or_turn false true o = refl
or_turn false false o = refl

module _ {X : Type 0} (f : X → List Text) where
  -- one element more is put
  pub gather_step : (xs : List X) (i : ℕ) (x : X) (old new : Text → Bool) (q : Text) → drop i xs ≡ x ∷ drop (i + 1) xs → new q ≡ (is_among text_cmp (f x) q || old q)
      → (is_among text_cmp (flat_map f (drop (i + 1) xs)) q || new q) ≡ (is_among text_cmp (flat_map f (drop i xs)) q || old q)
  gather_step xs i x old new q here put =
      let rest = is_among text_cmp (flat_map f (drop (i + 1) xs)) q in
      ap (λ b. rest || b) put
      ∙ or_turn rest (is_among text_cmp (f x) q) (old q)
      ∙ ap (λ b. b || old q) (sym (among-append (f x) (flat_map f (drop (i + 1) xs)) q))
      ∙ ap (λ ys. is_among text_cmp (flat_map f ys) q || old q) (sym here)

  pub gathered : (xs : List X) (i : ℕ) (t : Text → Bool) (q : Text) (all : Bool) → length xs ≤ i → (is_among text_cmp (flat_map f (drop i xs)) q || t q) ≡ all → t q ≡ all
  gathered xs i t q all h e = ap (λ ys. is_among text_cmp (flat_map f ys) q || t q) (sym (none_left xs i h)) ∙ e

  -- what is not among all is among none
  pub none_of : (xs : List X) (q : Text) → is_among text_cmp (flat_map f xs) q ≡ false → AllByRecursion (λ x. is_among text_cmp (f x) q ≡ false) xs
  none_of [] q h = tt
  none_of (x ∷ xs) q h = by (is_among text_cmp (f x) q) refl (sym (among-append (f x) (flat_map f xs) q) ∙ h) (none_of xs q)
    where
      by : (b : Bool) → is_among text_cmp (f x) q ≡ b → (b || is_among text_cmp (flat_map f xs) q) ≡ false → (is_among text_cmp (flat_map f xs) q ≡ false → AllByRecursion (λ x. is_among text_cmp (f x) q ≡ false) xs) → AllByRecursion (λ x. is_among text_cmp (f x) q ≡ false) (x ∷ xs)
      by true e k rest = absurd (true≢false k)
      by false e k rest = (e, rest k)

-- of all elements, and so of one of them
pub all_among : (P : Text → Type 0) (xs : List Text) (q : Text) → AllByRecursion P xs → is_among text_cmp xs q ≡ true → P q
all_among P [] q h k = absurd (true≢false (sym k))
all_among P (x ∷ xs) q h k = or_either (eq_by_cmp text_cmp q x) (is_among text_cmp xs q) k (λ e. subst P (sym (same_texts q x e)) h.0) (λ e. all_among P xs q h.1 e)

pub all_map : {X : Type 0} (P Q : X → Type 0) (xs : List X) → ((x : X) → P x → Q x) → AllByRecursion P xs → AllByRecursion Q xs
all_map P Q [] f h = tt
all_map P Q (x ∷ xs) f h = (f x h.0, all_map P Q xs f h.1)

-- an element of a list is among what all its elements give
pub among_flat : (f : Text → List Text) (xs : List Text) (x q : Text) → is_among text_cmp xs x ≡ true → is_among text_cmp (f x) q ≡ true → is_among text_cmp (flat_map f xs) q ≡ true
among_flat f [] x q h k = absurd (true≢false (sym h))
among_flat f (y ∷ xs) x q h k =
    among-append (f y) (flat_map f xs) q
    ∙ or_either (eq_by_cmp text_cmp x y) (is_among text_cmp xs x) h
    (λ e. or_left _ (is_among text_cmp (flat_map f xs) q) (ap (λ z. is_among text_cmp (f z) q) (sym (same_texts x y e)) ∙ k))
    (λ e. or_right (is_among text_cmp (f y) q) _ (among_flat f xs x q e k))
