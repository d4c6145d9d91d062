-- What is made of numbers in a row.
use Rattle.std.proofs.Common.{◌≡◌, ℕ, zero, suc, ◌+◌, ◌<◌, ◌≤◌, List, [], ◌∷◌, ◌++◌, length, map, get_or, refl, sym, ap, ◌∙◌, subst, arith}
use Rattle.std.specs.List.{AllByRecursion, range_with_len}
use Rattle.std.proofs.lemmas.List.{map-append}

module _ {A : Type 0} (f : ℕ → A) where
  -- numbers in a row, and then those that follow them
  pub split : (a m n k : ℕ) → a + m ≡ k → map f (range_with_len a (m + n)) ≡ map f (range_with_len a m) ++ map f (range_with_len k n)
  split a zero n k e =
      let none : zero + n ≡ n = omega arith in
      let here : a ≡ k = omega arith in
      ap (λ (l : ℕ). map f (range_with_len a l)) none ∙ ap (λ (b : ℕ). map f (range_with_len b n)) here
  split a (suc m) n k e =
      let more : suc m + n ≡ suc (m + n) = omega arith in
      ap (λ (l : ℕ). map f (range_with_len a l)) more ∙ ap (λ (rest : List A). f a ∷ rest) (split (a + 1) m n k (omega arith))

  -- what holds of each number in a row
  pub all_in : (P : A → Type 0) (a n : ℕ) → ((j : ℕ) → a ≤ j → j < a + n → P (f j)) → AllByRecursion P (map f (range_with_len a n))
  all_in P a zero h = tt
  all_in P a (suc n) h = (h a (omega arith) (omega arith), all_in P (a + 1) n (λ j low high. h j (omega arith) (omega arith)))

module _ {A : Type 0} (P : A → Type 0) where
  -- what holds of each element holds of the one at a place
  pub at_place : (xs : List A) → AllByRecursion P xs → (i : ℕ) (d : A) → i < length xs → P (get_or xs i d)
  at_place [] h i d low = absurd (omega arith)
  at_place (x ∷ xs) h zero d low = h.0
  at_place (x ∷ xs) h (suc i) d low = at_place xs h.1 i d (omega arith)

  pub all_append : (xs ys : List A) → AllByRecursion P xs → AllByRecursion P ys → AllByRecursion P (xs ++ ys)
  all_append [] ys h k = k
  all_append (x ∷ xs) ys h k = (h.0, all_append xs ys h.1 k)
