-- Which replies a script gives.
use Rattle.std.proofs.Common.{◌≡◌, ◌-◌, min, ℕ, zero, suc, List, [], ◌∷◌, length, refl, sym, ap, ◌∙◌, arith}
use Rattle.std.specs.List.{slice_get}
use Rattle.budget_ports.specs.Laws.{RepliesRepeat}

-- behind the first element stands what is one place further
behind : {X : Type 0} (x : X) (xs : List X) (i : ℕ) → slice_get (x ∷ xs) (suc i) ≡ slice_get xs i
behind x xs i = refl

first : (n : ℕ) → min 0 (n - 1) ≡ 0
first n = omega arith

one_further : (n l : ℕ) → suc (min n (suc l - 1)) ≡ min (suc n) (suc (suc l) - 1)
one_further n l = omega arith

pub replies_repeat : RepliesRepeat
replies_repeat [] zero = refl
replies_repeat [] (suc n) = replies_repeat [] n
replies_repeat (reply ∷ []) zero = refl
replies_repeat (reply ∷ []) (suc n) = replies_repeat (reply ∷ []) n ∙ ap (slice_get (reply ∷ [])) (omega arith)
replies_repeat (reply ∷ next ∷ replies) zero = sym (ap (slice_get (reply ∷ next ∷ replies)) (first (length (reply ∷ next ∷ replies))))
replies_repeat (reply ∷ next ∷ replies) (suc n) =
    replies_repeat (next ∷ replies) n ∙ sym (behind reply (next ∷ replies) (min n (length (next ∷ replies) - 1)))
    ∙ ap (slice_get (reply ∷ next ∷ replies)) (one_further n (length replies))
