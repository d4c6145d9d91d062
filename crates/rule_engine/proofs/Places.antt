-- The first place at which a test passes.
use Rattle.std.proofs.Common.{◌≡◌, ◌+◌, List, ◌∷◌, length, Bool, true, false, Some, arith, refl, inl, inr}
use Rattle.std.specs.Prelude.{nat_lt}
use Rattle.std.specs.Option.{option_map}
use Rattle.std.specs.List.{position, position_or_len}
use Rattle.std.proofs.lemmas.Bool.{cases_lt}
use Rattle.std.proofs.lemmas.Grind.{common_steps}

module _ {X : Type 0} (p : X → Bool) where
  pub at_front : (x : X) (xs : List X) → p x ≡ true → position p (x ∷ xs) ≡ Some 0
  at_front x xs t = let a : nat_lt 0 (length (x ∷ xs)) ≡ true = grind (arith, common_steps) in rw (t, a) refl

  pub behind : (x : X) (xs : List X) → p x ≡ false → position p (x ∷ xs) ≡ option_map (λ n. 1 + n) (position p xs)
  behind x xs f = elim (cases_lt (position_or_len p xs) (length xs)) [
    | inl in_it ↦
        let a : nat_lt (position_or_len p xs) (length xs) ≡ true = grind (arith, common_steps) in
        let b : nat_lt (1 + position_or_len p xs) (length (x ∷ xs)) ≡ true = grind (arith, common_steps) in
        rw (f, a, b) refl
    | inr out ↦
        let a : nat_lt (position_or_len p xs) (length xs) ≡ false = grind (arith, common_steps) in
        let b : nat_lt (1 + position_or_len p xs) (length (x ∷ xs)) ≡ false = grind (arith, common_steps) in
        rw (f, a, b) refl
  ]
