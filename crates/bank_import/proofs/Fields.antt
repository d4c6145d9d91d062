-- What is left of a record's fields at a step.
use Rattle.std.proofs.Common.{◌≡◌, ℕ, zero, suc, ◌+◌, ◌<◌, List, [], ◌∷◌, length, drop, Some, None, ap, add-one, subst, arith}
use Rattle.std.specs.Prelude.{IsUtf8}
use Rattle.csv.specs.Records.{field_at, AllText}

rest : (fs : List (List ℕ)) (i : ℕ) (f : List ℕ) → field_at fs i ≡ Some f → drop i fs ≡ f ∷ drop (suc i) fs
unfolding field_at
rest [] i f h = absurd (let bad : None ≡ Some f = h in cc)
rest (g ∷ fs) zero f h = ap (λ x. x ∷ fs) (let e : Some g ≡ Some f = h in let r : g ≡ f = cc in r)
rest (g ∷ fs) (suc i) f h = rest fs i f h

pub rest_at : (fs : List (List ℕ)) (i : ℕ) (f : List ℕ) → field_at fs i ≡ Some f → drop i fs ≡ f ∷ drop (i + 1) fs
rest_at fs i f h = rw add-one (rest fs i f h)

pub field_there : (fs : List (List ℕ)) (i : ℕ) → i < length fs → field_at fs i ≡ None → ⊥
unfolding field_at
field_there [] i h e = absurd (omega arith)
field_there (g ∷ fs) zero h e = let bad : Some g ≡ None = e in cc
field_there (g ∷ fs) (suc i) h e = field_there fs i (omega arith) e

-- the field at a place is a text where all are
pub text_at : (fs : List (List ℕ)) (i : ℕ) (f : List ℕ) → field_at fs i ≡ Some f → AllText fs → IsUtf8 f
unfolding field_at AllText
text_at [] i f h all = absurd (let bad : None ≡ Some f = h in cc)
text_at (g ∷ fs) zero f h all = subst IsUtf8 (let e : Some g ≡ Some f = h in let r : g ≡ f = cc in r) all.0
text_at (g ∷ fs) (suc i) f h all = text_at fs i f h all.1
