-- What is put behind a list, one after the other.
use Rattle.std.proofs.Common.{◌≡◌, List, [], ◌∷◌, ◌++◌, Result, Ok, Err, OnOk, IfOk, ap, ◌∙◌, append_assoc}

pub two_more : {X : Type 0} (xs ys zs : List X) (a b : X) → ys ≡ xs ++ a ∷ [] → zs ≡ ys ++ b ∷ [] → zs ≡ xs ++ a ∷ b ∷ []
two_more xs ys zs a b e f = f ∙ ap (λ l. l ++ b ∷ []) e ∙ append_assoc xs (a ∷ []) (b ∷ [])

pub on_ok : {A E : Type 0} {P Q : Type 0} (r : Result A E) → (P → Q) → OnOk r P → OnOk r Q
on_ok (Ok x) f p = f p
on_ok (Err e) f p = p

pub on_value : {A E : Type 0} {P Q : A → Type 0} (r : Result A E) → ((a : A) → P a → Q a) → IfOk r P → IfOk r Q
on_value (Ok x) f p = f x p
on_value (Err e) f p = p
