-- What one write after another leaves.
use Rattle.std.proofs.Common.{◌≡◌, ◌≢◌, ℕ, ◌+◌, ◌-◌, ◌<◌, List, [], ◌∷◌, ◌++◌, length, take, drop, arith, subst, sym, ap, ap₂, ◌∙◌, Option, Some, None, append_assoc, length-drop}
use Rattle.std.proofs.Math.Seq.{take-add}
use Rattle.std.proofs.lemmas.Grind.{common_steps}
use Rattle.std.proofs.lemmas.List.{same_from_push, append-nil}
use Rattle.budget_ports.specs.Connections.{Stays, Writes}
use Rattle.sync_server.specs.Written.{WritesTo}
use Rattle.sync_server.specs.Outside.{IsSent}
use Rattle.sync_server.specs.declared.served.Served.{Served}
use Rattle.sync_server.specs.declared.served.Served.TheVariants as served

pub stays_to : (a b : Option (List (List ℕ))) → Stays a b → WritesTo a b []
stays_to None b s e l p = cc
stays_to (Some x) None s e l p = absurd s
stays_to (Some x) (Some y) s e l p = ap Some s ∙ p ∙ ap (λ (z : List ℕ). Some (e ++ z ∷ [])) (sym (append-nil l))

some_is : (x y : List (List ℕ)) → Some x ≡ Some y → x ≡ y
some_is x y e = cc

pub writes_to : (a b : Option (List (List ℕ))) (n : List ℕ) → Writes a b n → WritesTo a b n
writes_to None b n w e l p = cc
writes_to (Some x) None n w e l p = absurd w
writes_to (Some x) (Some y) n w e l p =
    let same = same_from_push w.0 e w.1 l (sym w.2 ∙ some_is x (e ++ l ∷ []) p) in
    ap Some (w.3 ∙ ap₂ (λ (d : List (List ℕ)) (k : List ℕ). d ++ (k ++ n) ∷ []) same.0 same.1)

pub then_to : (a b c : Option (List (List ℕ))) (m n : List ℕ) → WritesTo a b m → WritesTo b c n → WritesTo a c (m ++ n)
then_to a b c m n f g e l p = g e (l ++ m) (f e l p) ∙ ap (λ (z : List ℕ). Some (e ++ z ∷ [])) (append_assoc l m n)

whole_rest : (xs : List ℕ) (at : ℕ) → take (length xs - at) (drop at xs) ≡ drop at xs
whole_rest xs at = grind (arith, common_steps)

pub after_write : (a b c : Option (List (List ℕ))) (xs : List ℕ) (at n : ℕ) → WritesTo a b (take at xs) → Writes b c (take n (take (length xs - at) (drop at xs))) → WritesTo a c (take (at + n) xs)
after_write a b c xs at n h k =
    let P : List ℕ → Type 0 = λ ys. WritesTo b c (take n ys) in
    let Q : List ℕ → Type 0 = λ ys. WritesTo a c ys in
    subst Q (sym (take-add at n xs)) (then_to a b c (take at xs) (take n (drop at xs)) h (subst P (whole_rest xs at) (writes_to b c (take n (take (length xs - at) (drop at xs))) k)))

pub kept_to : (a b c : Option (List (List ℕ))) (m : List ℕ) → WritesTo a b m → Stays b c → WritesTo a c m
kept_to a b c m f s = subst (WritesTo a c) (append-nil m) (then_to a b c m [] f (stays_to b c s))

pub stays_on : {T : Type 0} (a b c : Option T) → Stays a b → Stays b c → Stays a c
stays_on None b c s t = tt
stays_on (Some x) None c s t = absurd s
stays_on (Some x) (Some y) None s t = absurd t
stays_on (Some x) (Some y) (Some z) s t = t ∙ s

pub not_over : (at : ℕ) (xs : List ℕ) → at < length xs → drop at xs ≢ []
not_over at xs less e =
    let n : length (drop at xs) ≡ 0 = ap length e in
    let long : length (drop at xs) ≡ length xs - at = length-drop at xs in
    absurd (omega (arith, n, long, less))

-- what is known stays, and then bytes are written
pub stays_then : (a b c : Option (List (List ℕ))) (n : List ℕ) → Stays a b → WritesTo b c n → WritesTo a c n
stays_then a b c n s w = then_to a b c [] n (stays_to a b s) w

pub sent_on : (text : List ℕ) (status : ℕ) (a b c : Option (List (List ℕ))) (result : Served) → Stays a b → IsSent text status b c result → IsSent text status a c result
sent_on text status a b c (served.Answered st) s h = (h.0, stays_then a b c text s h.1)
sent_on text status a b c served.Cut s h = record { front = h.front; rest = h.rest; of = h.of; some = h.some; wrote = stays_then a b c h.front s h.wrote }
