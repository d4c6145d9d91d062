-- The line of a connection, piece by piece.
use Rattle.std.proofs.Common.{◌≡◌, ℕ, List, ◌++◌, Option, true, false, ◌∙◌, append_assoc}
use Rattle.std.specs.Prelude.{Result, Ok, Err, OnOk, OnErr}
use Rattle.std.specs.Result.{is_err}
use Rattle.std.proofs.KnownBytes.{Appends-trans}
use Rattle.std.specs.Io.KnownBytes.{Appends}
use Rattle.budget_top.specs.Fronts.{AppendsFront}
use Rattle.budget_top.proofs.Standing.{front_then, front_more, front_as}

-- the second piece broke off
pub in_second : (a b c : Option (List ℕ)) (x y z : List ℕ) → Appends a b x → AppendsFront b c y → AppendsFront a c (x ++ (y ++ z))
in_second a b c x y z h k = front_as a c ((x ++ y) ++ z) (x ++ (y ++ z)) (append_assoc x y z) (front_more a c (x ++ y) z (front_then a b c x y h k))

-- the third piece broke off
pub in_third : (a b c d : Option (List ℕ)) (x y z w : List ℕ) → Appends a b x → Appends b c y → AppendsFront c d z → AppendsFront a d (x ++ (y ++ (z ++ w)))
in_third a b c d x y z w h k l =
    front_as a d ((x ++ y) ++ (z ++ w)) (x ++ (y ++ (z ++ w))) (append_assoc x y (z ++ w))
    (in_second a c d (x ++ y) z w (Appends-trans a b c x y h k) l)

-- the last piece broke off
pub in_last : (a b c d e : Option (List ℕ)) (x y z w : List ℕ) → Appends a b x → Appends b c y → Appends c d z → AppendsFront d e w → AppendsFront a e (x ++ (y ++ (z ++ w)))
in_last a b c d e x y z w h k l m =
    front_as a e (((x ++ y) ++ z) ++ w) (x ++ (y ++ (z ++ w))) (append_assoc (x ++ y) z w ∙ append_assoc x y (z ++ w))
    (front_then a d e ((x ++ y) ++ z) w (Appends-trans a c d (x ++ y) z (Appends-trans a b c x y h k) l) m)

-- a call that has failed, and one that has not
pub has_failed : {T E : Type 0} (r : Result T E) (P : Type 0) → true ≡ is_err r → OnErr r P → P
has_failed (Ok x) P e h = absurd (let no = e in cc)
has_failed (Err x) P e h = h

pub has_worked : {T E : Type 0} (r : Result T E) (P : Type 0) → false ≡ is_err r → OnOk r P → P
has_worked (Ok x) P e h = h
has_worked (Err x) P e h = absurd (let no = e in cc)
