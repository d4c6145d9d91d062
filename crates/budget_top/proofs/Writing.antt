-- What one write after another leaves.
use Rattle.std.proofs.Common.{◌≡◌, ℕ, ◌+◌, ◌-◌, List, length, take, drop, arith, subst, sym, Option}
use Rattle.std.proofs.Math.Seq.{take-add}
use Rattle.std.proofs.lemmas.Grind.{common_steps}
use Rattle.std.proofs.KnownBytes.{Appends-trans}
use Rattle.std.specs.Io.KnownBytes.{Appends}

pub whole_rest : (xs : List ℕ) (at : ℕ) → take (length xs - at) (drop at xs) ≡ drop at xs
whole_rest xs at = grind (arith, common_steps)

pub after_write : (a b c : Option (List ℕ)) (xs : List ℕ) (at n : ℕ) → Appends a b (take at xs) → Appends b c (take n (take (length xs - at) (drop at xs))) → Appends a c (take (at + n) xs)
after_write a b c xs at n h k =
    let P : List ℕ → Type 0 = λ ys. Appends b c (take n ys) in
    let Q : List ℕ → Type 0 = λ ys. Appends a c ys in
    subst Q (sym (take-add at n xs)) (Appends-trans a b c (take at xs) (take n (drop at xs)) h (subst P (whole_rest xs at) k))
