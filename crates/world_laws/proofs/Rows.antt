-- What stands at a place of what numbers in a row make.
use Rattle.std.proofs.Common.{◌≡◌, ℕ, ◌+◌, ◌<◌, Some, map, slice_get, refl, sym, ◌∙◌, subst}
use Rattle.std.specs.List.{range_with_len}
use Rattle.std.proofs.lemmas.List.FromFn.{get_or-map-range_with_len, length-map-range_with_len}
use Rattle.std.proofs.lemmas.Option.{slice_get_within, get_or_from_slice_get}

module _ {A : Type 0} (f : ℕ → A) where
  -- there are no more than numbers
  pub within : (a n i : ℕ) (x : A) → slice_get (map f (range_with_len a n)) i ≡ Some x → i < n
  within a n i x is = subst (λ (k : ℕ). i < k) (length-map-range_with_len f a n) (slice_get_within (map f (range_with_len a n)) i x is)

  -- each is what its number makes
  pub in_row : (a n i : ℕ) (x : A) → slice_get (map f (range_with_len a n)) i ≡ Some x → x ≡ f (a + i)
  in_row a n i x is =
      let low : i < n = within a n i x is in
      sym (get_or_from_slice_get (map f (range_with_len a n)) i x x is) ∙ get_or-map-range_with_len f a n i (a + i) x low refl
