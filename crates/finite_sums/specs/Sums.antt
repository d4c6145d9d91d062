-- Sums over a list.
use Rattle.std.specs.Prelude.{ℕ, ◌+◌, Bool, ℤ, pos, ◌+ℤ◌, List, [], ◌∷◌, if◌then◌else◌}

-- f of each element, added up
abbrev pub total : {X : Type 0} → (X → ℤ) → List X → ℤ
total f [] = pos 0
total f (x ∷ xs) = f x +ℤ total f xs

-- z where the test passes, else 0
abbrev pub only_if : Bool → ℤ → ℤ
only_if b z = if b then z else pos 0

-- f of each element, added up, where nothing is negative
abbrev pub weight : {X : Type 0} → (X → ℕ) → List X → ℕ
weight f [] = 0
weight f (x ∷ xs) = f x + weight f xs

-- how many elements pass a test
abbrev pub hits : {X : Type 0} → (X → Bool) → List X → ℕ
hits p [] = 0
hits p (x ∷ xs) = (if p x then 1 else 0) + hits p xs
