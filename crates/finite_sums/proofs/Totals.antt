-- How a sum changes with its list and with its addends.
use Rattle.std.proofs.Common.{◌≡◌, ℕ, ◌+◌, ◌<◌, Bool, true, false, cond, List, [], ◌∷◌, ◌++◌, length, take, get_or, zero, suc, refl, arith, add-one}
use lib.IntN.{ℤ, ◌+ℤ◌, ◌-ℤ◌}
use Rattle.std.specs.List.{filter}
use Rattle.std.proofs.lemmas.Int.{ints}
use Rattle.finite_sums.specs.Sums.{total}

pub total-append : {X : Type 0} (f : X → ℤ) (xs ys : List X) → total f (xs ++ ys) ≡ total f xs +ℤ total f ys
total-append f [] ys = omega (arith, ints)
total-append f (x ∷ xs) ys = omega (arith, ints, total-append f xs ys)

pub total-plus : {X : Type 0} (f g : X → ℤ) (xs : List X) → total (λ x. f x +ℤ g x) xs ≡ total f xs +ℤ total g xs
total-plus f g [] = omega (arith, ints)
total-plus f g (x ∷ xs) = omega (arith, ints, total-plus f g xs)

-- the next element of a loop
pub total_more : {X : Type 0} (f : X → ℤ) (xs : List X) (i : ℕ) (d : X) → i < length xs → total f (take (i + 1) xs) ≡ total f (take i xs) +ℤ f (get_or xs i d)
total_more f [] i d h = absurd (omega arith)
total_more f (x ∷ xs) zero d h = omega (arith, ints)
total_more f (x ∷ xs) (suc i) d h = rw add-one (omega (arith, ints, rw add-one at (total_more f xs i d (omega arith))))

-- addends that differ only where a test passes
pub total_where : {X : Type 0} (f g : X → ℤ) (p : X → Bool) (xs : List X) → ((x : X) → p x ≡ false → f x ≡ g x) → total f xs ≡ total g xs +ℤ total (λ x. f x -ℤ g x) (filter p xs)
total_where f g p [] h = omega (arith, ints)
total_where f g p (x ∷ xs) h =
    elim (p x) as (λ b. p x ≡ b → f x +ℤ total f xs ≡ (g x +ℤ total g xs) +ℤ total (λ y. f y -ℤ g y) (cond b (x ∷ filter p xs) (filter p xs))) [
      | true ↦ λ e. omega (arith, ints, total_where f g p xs h)
      | false ↦ λ e. omega (arith, ints, total_where f g p xs h, h x e)
    ] refl
