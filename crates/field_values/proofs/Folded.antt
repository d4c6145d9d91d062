-- A test of all items, that goes on behind one that passes.
use Rattle.std.proofs.Common.{◌≡◌, ℕ, ◌+◌, Bool, false, ◌||◌, List, [], ◌∷◌, None, refl, ◌∙◌}
use Rattle.std.specs.List.{fold, position_from}
use Rattle.std.specs.Prelude.{position}
use Rattle.std.proofs.lemmas.Bool.{or_parts}
use Rattle.std.proofs.lemmas.Iterator.Adapters.{position_from-zero}

folded : {A : Type 0} (p : A → Bool) (b : Bool) (n : ℕ) (xs : List A) → fold (λ c x. c || p x) b xs ≡ false → (b ≡ false) × (position_from p n xs ≡ None)
folded p b n [] e = (e, refl)
folded p b n (x ∷ xs) e =
    let rest = folded p (b || p x) (n + 1) xs e in
    let both = or_parts b (p x) rest.0 in
    let here = both.1 in
    (both.0, rw here rest.1)

-- where none passes, none is the first
pub no_place : {A : Type 0} (p : A → Bool) (xs : List A) → fold (λ c x. c || p x) false xs ≡ false → position p xs ≡ None
no_place p xs e = position_from-zero p xs ∙ (folded p false 0 xs e).1
