-- What a list is mapped to, place by place.
use Rattle.std.proofs.Common.{◌≡◌, ℕ, zero, suc, List, [], ◌∷◌, Some, None, refl, ap}
use Rattle.std.specs.Prelude.{map as list_map}
use Rattle.std.specs.List.{slice_get}

no_some : {X P : Type 0} (x : X) → None ≡ Some x → P
no_some x h = absurd (clash h)
  where
    clash : None ≡ Some x → ⊥
    clash h = cc

some_is : {X : Type 0} (x y : X) → Some x ≡ Some y → x ≡ y
some_is x y h = cc

pub map_at : {X Y : Type 0} (f : X → Y) (xs : List X) (i : ℕ) (y : Y) → slice_get (list_map f xs) i ≡ Some y → (x : X) × (slice_get xs i ≡ Some x) × (f x ≡ y)
map_at f [] i y h = no_some y h
map_at f (x ∷ xs) zero y h = (x, refl, some_is (f x) y h)
map_at f (x ∷ xs) (suc i) y h = map_at f xs i y h

pub at_map : {X Y : Type 0} (f : X → Y) (xs : List X) (i : ℕ) (x : X) → slice_get xs i ≡ Some x → slice_get (list_map f xs) i ≡ Some (f x)
at_map f [] i x h = no_some x h
at_map f (y ∷ xs) zero x h = ap (λ z. Some (f z)) (some_is y x h)
at_map f (y ∷ xs) (suc i) x h = at_map f xs i x h
