-- Short lists.
use Rattle.std.specs.Prelude.{◌==◌}
use Rattle.std.proofs.lemmas.Bool.{eqb-true}
use Rattle.std.proofs.Common.{arith, true, sym, ◌≡◌, ◌<◌, List, [], ◌∷◌, length, refl}

pub none_of : {X : Type 0} (xs : List X) → length xs < 1 → xs ≡ []
none_of [] few = refl
none_of (x ∷ xs) few = absurd (omega arith)

pub none_in : {X : Type 0} (xs : List X) → true ≡ (length xs == 0) → xs ≡ []
none_in [] h = refl
none_in (x ∷ xs) h = absurd (omega (arith, eqb-true (length (x ∷ xs)) 0 (sym h)))
