-- A line of the bytes that come next.
use Rattle.std.proofs.Common.{◌≡◌, ℕ, ◌+◌, ◌-◌, List, [], ◌∷◌, ◌++◌, ap, sym, ◌∙◌, subst, Option, length, take, drop, get_or, arith, append_assoc}
use Rattle.std.proofs.Math.Seq.{take-add}
use Rattle.std.proofs.lemmas.List.{take_more, take-append-drop}
use Rattle.budget_top.specs.declared.merge.Merge.{Merge}
use Rattle.budget_top.specs.Lines.{IsWithinLine, whole_lines}
use Rattle.budget_top.proofs.Cutting.{FirstEnd}
use Rattle.budget_top.specs.Verdicts.{bad_lines}
use Rattle.budget_top.specs.Fronts.{AppendsFront}
use Rattle.budget_top.specs.Steps.{Stands}
use Rattle.budget_top.proofs.Standing.{front_of_more, breaks_now}
use Rattle.budget_top.proofs.Writing.{whole_rest}

-- a line stands between a place and the next line feed
pub ends_there : (bytes : List ℕ) (at n : ℕ) → FirstEnd (take (length bytes - at) (drop at bytes)) n → FirstEnd (drop at bytes) n
ends_there bytes at n h = let P : List ℕ → Type 0 = λ xs. FirstEnd xs n in subst P (whole_rest bytes at) h

pub line_within : (bytes : List ℕ) (at n : ℕ) → FirstEnd (drop at bytes) n → IsWithinLine (take (at + n - at) (drop at bytes))
line_within bytes at n h =
    let same : n ≡ at + n - at = omega arith in
    let P : ℕ → Type 0 = λ k. IsWithinLine (take k (drop at bytes)) in
    subst P same h.line

-- the bytes up to that line feed
pub taken_line : (read bytes : List ℕ) (at n : ℕ) → FirstEnd (drop at bytes) n → read ++ take at bytes ++ take (at + n - at) (drop at bytes) ++ 10 ∷ [] ≡ read ++ take (at + (n + 1)) bytes
taken_line read bytes at n h =
    let same : at + n - at ≡ n = omega arith in
    let one : take n (drop at bytes) ++ get_or (drop at bytes) n 0 ∷ [] ≡ take (n + 1) (drop at bytes) = sym (take_more (drop at bytes) n 0 h.inside) in
    let ended : take n (drop at bytes) ++ 10 ∷ [] ≡ take (n + 1) (drop at bytes) = ap (λ b. take n (drop at bytes) ++ b ∷ []) (sym h.end) ∙ one in
    ap (λ k. read ++ take at bytes ++ take k (drop at bytes) ++ 10 ∷ []) same
    ∙ append_assoc (read ++ take at bytes) (take n (drop at bytes)) (10 ∷ [])
    ∙ ap (λ t. read ++ take at bytes ++ t) ended
    ∙ append_assoc read (take at bytes) (take (n + 1) (drop at bytes))
    ∙ ap (λ t. read ++ t) (sym (take-add at (n + 1) bytes))

pub all_taken : (read bytes : List ℕ) (at : ℕ) → read ++ take at bytes ++ drop at bytes ≡ read ++ bytes
all_taken read bytes at = append_assoc read (take at bytes) (drop at bytes) ∙ ap (λ t. read ++ t) (take-append-drop at bytes)

-- it broke off before a line
pub breaks_before_line : (entry now : Option (List ℕ)) (read bytes : List ℕ) (at : ℕ) (m : Merge) → Stands entry now (read ++ take at bytes) m → AppendsFront entry now (bad_lines (whole_lines (read ++ bytes)))
breaks_before_line entry now read bytes at m h =
    let P : List ℕ → Type 0 = λ xs. AppendsFront entry now (bad_lines (whole_lines xs)) in
    subst P (all_taken read bytes at) (breaks_now entry now (read ++ take at bytes) (drop at bytes) m h)

-- it broke off at the end of a line
pub breaks_in_line : (entry now : Option (List ℕ)) (read bytes : List ℕ) (at n : ℕ) → FirstEnd (drop at bytes) n
    → AppendsFront entry now (bad_lines (whole_lines (read ++ take at bytes ++ take (at + n - at) (drop at bytes) ++ 10 ∷ []))) → AppendsFront entry now (bad_lines (whole_lines (read ++ bytes)))
breaks_in_line entry now read bytes at n h f =
    let P : List ℕ → Type 0 = λ xs. AppendsFront entry now (bad_lines (whole_lines xs)) in
    subst P (all_taken read bytes (at + (n + 1)))
    (front_of_more entry now (read ++ take (at + (n + 1)) bytes) (drop (at + (n + 1)) bytes) (subst P (taken_line read bytes at n h) f))
