-- Texts that are all different, and all among some, are no more than these, and weigh no more.
use Rattle.std.proofs.Common.{◌≡◌, ℕ, suc, ◌+◌, ◌≤◌, Bool, true, false, cond, List, [], ◌∷◌, length, refl, ap, sym, ◌∙◌, arith, true≢false, length-append}
use Rattle.std.specs.Prelude.{◌||◌, flat_map}
use Rattle.std.specs.List.{filter}
use Rattle.std.specs.Ordering.{eq_by_cmp}
use Rattle.finite_sums.specs.Sums.{weight}
use Rattle.finite_sums.specs.Maps.{Text, text_cmp, is_among, AreDistinct}
use Rattle.envelope_cells.proofs.Among.{same_texts, itself, or_left, or_right, or_either, among-append}
use Rattle.dirty_cells.specs.Changes.{Within}
use Rattle.dirty_cells.specs.Governing.{distinct}
use Rattle.dirty_cells.specs.Bound.{different}

-- a list without the first that is this one
without : Text → List Text → List Text
without x [] = []
without x (y ∷ ys) = cond (eq_by_cmp text_cmp x y) ys (y ∷ without x ys)

module _ (f : Text → ℕ) where
  lighter : (x : Text) (ys : List Text) → is_among text_cmp ys x ≡ true → f x + weight f (without x ys) ≤ weight f ys
  unfolding without
  lighter x [] h = absurd (true≢false (sym h))
  lighter x (y ∷ ys) h = by (eq_by_cmp text_cmp x y) refl h (lighter x ys)
    where
      by : (b : Bool) → eq_by_cmp text_cmp x y ≡ b → (b || is_among text_cmp ys x) ≡ true → (is_among text_cmp ys x ≡ true → f x + weight f (without x ys) ≤ weight f ys) → f x + weight f (cond b ys (y ∷ without x ys)) ≤ f y + weight f ys
      by true e h rest = omega (arith, ap f (same_texts x y e))
      by false e h rest = omega (arith, rest h)

still : (x q : Text) (ys : List Text) → eq_by_cmp text_cmp q x ≡ false → is_among text_cmp ys q ≡ true → is_among text_cmp (without x ys) q ≡ true
unfolding without
still x q [] apart h = h
still x q (y ∷ ys) apart h = by (eq_by_cmp text_cmp x y) refl (still x q ys apart)
  where
    by : (b : Bool) → eq_by_cmp text_cmp x y ≡ b → (is_among text_cmp ys q ≡ true → is_among text_cmp (without x ys) q ≡ true) → is_among text_cmp (cond b ys (y ∷ without x ys)) q ≡ true
    by true e rest = or_either (eq_by_cmp text_cmp q y) (is_among text_cmp ys q) h (λ k. absurd (true≢false (sym k ∙ ap (eq_by_cmp text_cmp q) (sym (same_texts x y e)) ∙ apart))) (λ k. k)
    by false e rest = or_either (eq_by_cmp text_cmp q y) (is_among text_cmp ys q) h (λ k. or_left _ _ k) (λ k. or_right (eq_by_cmp text_cmp q y) _ (rest k))

tail_within : (x : Text) (xs ys : List Text) → is_among text_cmp xs x ≡ false → Within (x ∷ xs) ys → Within xs (without x ys)
tail_within x xs ys fresh h = record { each = λ q k. still x q ys (apart q k (eq_by_cmp text_cmp q x) refl) (h.each q (or_right (eq_by_cmp text_cmp q x) _ k)) }
  where
    apart : (q : Text) → is_among text_cmp xs q ≡ true → (b : Bool) → eq_by_cmp text_cmp q x ≡ b → b ≡ false
    apart q k true e = absurd (true≢false (sym k ∙ ap (is_among text_cmp xs) (same_texts q x e) ∙ fresh))
    apart q k false e = refl

pub weighs_less : (f : Text → ℕ) (xs ys : List Text) → AreDistinct text_cmp xs → Within xs ys → weight f xs ≤ weight f ys
weighs_less f [] ys d h = omega arith
weighs_less f (x ∷ xs) ys d h = omega (arith, weighs_less f xs (without x ys) d.1 (tail_within x xs ys d.0 h), lighter f x ys (h.each x (or_left _ _ (itself x))))

ones : (xs : List Text) → weight (λ x. 1) xs ≡ length xs
ones [] = refl
ones (x ∷ xs) = omega (arith, ones xs)

pub few : (xs ys : List Text) → AreDistinct text_cmp xs → Within xs ys → length xs ≤ length ys
few xs ys d h = omega (arith, weighs_less (λ x. 1) xs ys d h, ones xs, ones ys)

-- ---- each text once
pub among-distinct : (xs : List Text) (q : Text) → is_among text_cmp (distinct xs) q ≡ is_among text_cmp xs q
among-distinct [] q = refl
among-distinct (x ∷ xs) q = by (is_among text_cmp xs x) refl (among-distinct xs q)
  where
    here : (b : Bool) → eq_by_cmp text_cmp q x ≡ b → is_among text_cmp xs x ≡ true → is_among text_cmp xs q ≡ (b || is_among text_cmp xs q)
    here true e h = ap (is_among text_cmp xs) (same_texts q x e) ∙ h
    here false e h = refl

    by : (b : Bool) → is_among text_cmp xs x ≡ b → is_among text_cmp (distinct xs) q ≡ is_among text_cmp xs q → is_among text_cmp (cond b (distinct xs) (x ∷ distinct xs)) q ≡ (eq_by_cmp text_cmp q x || is_among text_cmp xs q)
    by true e rest = rest ∙ here (eq_by_cmp text_cmp q x) refl e
    by false e rest = ap (λ b. eq_by_cmp text_cmp q x || b) rest

pub are_distinct : (xs : List Text) → AreDistinct text_cmp (distinct xs)
are_distinct [] = tt
are_distinct (x ∷ xs) = by (is_among text_cmp xs x) refl (are_distinct xs)
  where
    by : (b : Bool) → is_among text_cmp xs x ≡ b → AreDistinct text_cmp (distinct xs) → AreDistinct text_cmp (cond b (distinct xs) (x ∷ distinct xs))
    by true e rest = rest
    by false e rest = (among-distinct xs x ∙ e, rest)

pub no_longer : (xs : List Text) → length (distinct xs) ≤ length xs
no_longer xs = few (distinct xs) xs (are_distinct xs) (record { each = λ q h. sym (among-distinct xs q) ∙ h })

-- what is marked, each once, is no more than what is counted
pub no_more : (marks all : List Text) → AreDistinct text_cmp marks → Within marks all → length marks ≤ different all
no_more marks all d h = few marks (distinct all) d (record { each = λ q k. among-distinct all q ∙ h.each q k })

-- ---- lists of lists
pub length-flat : {X Y : Type 0} (f : X → List Y) (xs : List X) → length (flat_map f xs) ≡ weight (λ x. length (f x)) xs
length-flat f [] = refl
length-flat f (x ∷ xs) = length-append (f x) (flat_map f xs) ∙ ap (λ n. length (f x) + n) (length-flat f xs)

pub no_longer_filtered : {X : Type 0} (p : X → Bool) (xs : List X) → length (filter p xs) ≤ length xs
no_longer_filtered p [] = omega arith
no_longer_filtered p (x ∷ xs) = by (p x) (no_longer_filtered p xs)
  where
    by : (b : Bool) → length (filter p xs) ≤ length xs → length (cond b (x ∷ filter p xs) (filter p xs)) ≤ suc (length xs)
    by true h = omega (arith, h)
    by false h = omega (arith, h)

-- an element of what one element gives
pub of_flat : {X : Type 0} (f : X → List Text) (P : Type 0) (xs : List X) (q : Text) → is_among text_cmp (flat_map f xs) q ≡ true → ((x : X) → is_among text_cmp (f x) q ≡ true → P) → P
of_flat f P [] q h go = absurd (true≢false (sym h))
of_flat f P (x ∷ xs) q h go = or_either (is_among text_cmp (f x) q) (is_among text_cmp (flat_map f xs) q) (sym (among-append (f x) (flat_map f xs) q) ∙ h) (λ k. go x k) (λ k. of_flat f P xs q k go)
