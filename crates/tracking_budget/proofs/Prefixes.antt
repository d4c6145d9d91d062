-- What a text begins with.
use Rattle.std.proofs.Common.{◌≡◌, ℕ, Bool, true, false, List, [], ◌∷◌, ◌++◌, drop, length, refl, arith, sym}
use Rattle.std.specs.Prelude.{nat_eq, ◌&&◌}
use Rattle.std.specs.List.{starts_with}
use Rattle.std.proofs.lemmas.Bool.Decides.{nat_tests}

nat_same : (m n : ℕ) → nat_eq m n ≡ true → m ≡ n
nat_same m n h = grind (arith, nat_tests)

-- a text that begins with another one is that one and what is left
pub starts_written : (p text : List ℕ) → starts_with nat_eq text p ≡ true → p ++ drop (length p) text ≡ text
starts_written [] text h = refl
starts_written (x ∷ p) [] h = absurd (cc)
starts_written (x ∷ p) (y ∷ text) h = by (nat_eq x y) refl (starts_written p text) h
  where
    by : (b : Bool) → nat_eq x y ≡ b → (starts_with nat_eq text p ≡ true → p ++ drop (length p) text ≡ text) → (b && starts_with nat_eq text p) ≡ true → x ∷ (p ++ drop (length p) text) ≡ y ∷ text
    by true e rest is = let first : x ≡ y = nat_same x y e in let more = rest is in λ i. first i ∷ more i
    by false e rest is = absurd (cc)

-- a text that is not another one with some text behind it doesn't begin with that one
pub no_prefix : (p text : List ℕ) → ((rest : List ℕ) → text ≡ p ++ rest → ⊥) → starts_with nat_eq text p ≡ false
no_prefix p text h = by (starts_with nat_eq text p) refl
  where
    by : (b : Bool) → starts_with nat_eq text p ≡ b → b ≡ false
    by true e = absurd (h (drop (length p) text) (sym (starts_written p text e)))
    by false e = refl
