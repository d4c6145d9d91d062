-- Places of lists, members, and devices by their number.
use Rattle.std.proofs.Common.{◌≡◌, ◌⊎◌, inl, inr, ℕ, zero, suc, ◌≤◌, List, [], ◌∷◌, None, Some, Result, Ok, Err, length, map, refl, sym, ap, ap₂, ◌∙◌, subst, arith, slice_set}
use Rattle.std.specs.List.{Contains, slice_get}
use Rattle.std.proofs.lemmas.Option.{slice_get-get_or, slice_get_within, get_or_from_slice_get, same_Some}
use Rattle.field_merge.proofs.Members.{here, there}
use Rattle.device_core.specs.Device.{State}
use Rattle.sync_world.specs.World.{device_of, with_device}

module _ {A : Type 0} where
  pub got_same : (xs : List A) (i : ℕ) (x y : A) → slice_get xs i ≡ Some x → slice_get (slice_set xs i y) i ≡ Some y
  got_same [] i x y h = absurd (cc)
  got_same (z ∷ xs) zero x y h = refl
  got_same (z ∷ xs) (suc i) x y h = got_same xs i x y h

  pub got_other : (xs : List A) (i j : ℕ) (y : A) → (j ≡ i → ⊥) → slice_get (slice_set xs i y) j ≡ slice_get xs j
  got_other [] i j y h = refl
  got_other (z ∷ xs) zero zero y h = absurd (h refl)
  got_other (z ∷ xs) zero (suc j) y h = refl
  got_other (z ∷ xs) (suc i) zero y h = refl
  got_other (z ∷ xs) (suc i) (suc j) y h = got_other xs i j y (λ e. h (ap suc e))

  pub member_at : (xs : List A) (x : A) → Contains xs x → (k : ℕ) × (slice_get xs k ≡ Some x)
  member_at xs x (k, within, is) = (k, slice_get-get_or xs k x within ∙ ap (λ (y : A). Some y) is)

  pub at_member : (xs : List A) (k : ℕ) (x : A) → slice_get xs k ≡ Some x → Contains xs x
  at_member xs k x h = (k, slice_get_within xs k x h, get_or_from_slice_get xs k x x h)

  pub no_member : (x : A) → Contains [] x → ⊥
  no_member x (k, within, is) = omega (arith, within)

  pub first_or : (x : A) (xs : List A) (y : A) → Contains (x ∷ xs) y → (x ≡ y) ⊎ Contains xs y
  first_or x xs y (zero, within, is) = inl is
  first_or x xs y (suc k, within, is) = inr (k, omega (arith, within), is)

  -- lists that have the same at each place are one
  pub same_places : (xs ys : List A) → ((k : ℕ) → slice_get xs k ≡ slice_get ys k) → xs ≡ ys
  same_places [] [] h = refl
  same_places [] (y ∷ ys) h = let e = h 0 in absurd (cc)
  same_places (x ∷ xs) [] h = let e = h 0 in absurd (cc)
  same_places (x ∷ xs) (y ∷ ys) h = ap₂ (λ (z : A) (zs : List A). z ∷ zs) (same_Some x y (h 0)) (same_places xs ys (λ k. h (suc k)))

  -- nothing stands at a place past the end alone
  pub past_end : (xs : List A) (k : ℕ) → slice_get xs k ≡ None → length xs ≤ k
  past_end [] k h = omega arith
  past_end (x ∷ xs) zero h = absurd (cc)
  past_end (x ∷ xs) (suc k) h = let rest = past_end xs k h in omega (arith, rest)

pub same_ok : {A E : Type 0} (x y : A) → ◌≡◌ {A = Result A E} (Ok x) (Ok y) → x ≡ y
same_ok x y e = cc

pub same_err : {A E : Type 0} (x y : E) → ◌≡◌ {A = Result A E} (Err x) (Err y) → x ≡ y
same_err x y e = cc

module _ {A B : Type 0} (f : A → B) where
  pub mapped : (xs : List A) (x : A) → Contains xs x → Contains (map f xs) (f x)
  mapped [] x c = absurd (no_member x c)
  mapped (y ∷ xs) x c = elim (first_or y xs x c) [
    | inl same ↦ subst (λ (z : A). Contains (map f (y ∷ xs)) (f z)) same (here (f y) (map f xs))
    | inr rest ↦ there (f y) (map f xs) (f x) (mapped xs x rest)
  ]

  pub from_mapped : (xs : List A) (y : B) → Contains (map f xs) y → (x : A) × (Contains xs x × (f x ≡ y))
  from_mapped [] y c = absurd (no_member y c)
  from_mapped (x ∷ xs) y c = elim (first_or (f x) (map f xs) y c) [
    | inl same ↦ (x, (here x xs, same))
    | inr rest ↦ let r = from_mapped xs y rest in (r.0, (there x xs r.0 r.1.0, r.1.1))
  ]

  -- a value set where it has the same image
  pub same_map : (xs : List A) (i : ℕ) (x y : A) → slice_get xs i ≡ Some x → f y ≡ f x → map f (slice_set xs i y) ≡ map f xs
  same_map [] i x y h e = refl
  same_map (z ∷ xs) zero x y h e = let same : z ≡ x = same_Some z x h in ap (λ (b : B). b ∷ map f xs) (e ∙ ap f (sym same))
  same_map (z ∷ xs) (suc i) x y h e = ap (λ (bs : List B). f z ∷ bs) (same_map xs i x y h e)

-- ---- devices

pub device_same : (ds : List State) (i : ℕ) (s t : State) → device_of ds i ≡ Some s → device_of (with_device ds i t) i ≡ Some t
device_same ds zero s t h = absurd (cc)
device_same ds (suc i) s t h = got_same ds i s t h

pub device_other : (ds : List State) (i j : ℕ) (s t : State) → device_of ds i ≡ Some s → (j ≡ i → ⊥) → device_of (with_device ds i t) j ≡ device_of ds j
device_other ds zero j s t h differ = absurd (cc)
device_other ds (suc i) zero s t h differ = refl
device_other ds (suc i) (suc j) s t h differ = got_other ds i j t (λ e. differ (ap suc e))

-- a number is this one or another
pub alike : (i j : ℕ) → (i ≡ j) ⊎ (i ≡ j → ⊥)
alike zero zero = inl refl
alike zero (suc j) = inr (λ e. cc)
alike (suc i) zero = inr (λ e. cc)
alike (suc i) (suc j) = elim (alike i j) [
  | inl same ↦ inl (ap suc same)
  | inr other ↦ inr (λ e. other (omega (arith, e)))
]

-- a device of the new list is the one that was set, or one of before
pub device_new : (ds : List State) (i j : ℕ) (s t u : State) → device_of ds i ≡ Some s → device_of (with_device ds i t) j ≡ Some u → ((j ≡ i) × (t ≡ u)) ⊎ ((j ≡ i → ⊥) × (device_of ds j ≡ Some u))
device_new ds i j s t u h k = elim (alike j i) [
  | inl same ↦ inl (same, same_Some t u (sym (device_same ds i s t h) ∙ ap (device_of (with_device ds i t)) (sym same) ∙ k))
  | inr other ↦ inr (other, sym (device_other ds i j s t h other) ∙ k)
]

-- a device changed where it keeps its image
pub device_map : {B : Type 0} (f : State → B) (ds : List State) (i : ℕ) (s t : State) → device_of ds i ≡ Some s → f t ≡ f s → map f (with_device ds i t) ≡ map f ds
device_map f ds zero s t h e = absurd (cc)
device_map f ds (suc i) s t h e = same_map f ds i s t h e
