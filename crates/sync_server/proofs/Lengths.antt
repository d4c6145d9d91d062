-- The length that all fields of its name tell.
use Rattle.std.proofs.Common.{◌≡◌, ℕ, List, [], ◌∷◌, Bool, true, false, cond, ◌==◌, ◌&&◌, Option, Some, None, Result, Ok, Err, refl, codes}
use Rattle.std.specs.List.{list_all, cons_option}
use Rattle.sync_server.specs.declared.refusal.Refusal.{Refusal}
use Rattle.sync_server.specs.declared.refusal.Refusal.TheVariants.{BadRequest}
use Rattle.sync_server.specs.Heads.{Pair, has_name, length_in, is_number, tells, values_under, told_by_all, length_told}
use Rattle.sync_server.specs.Headers.{agree, agree_at, agreed, ◌>>=◌}

abbrev name : List ℕ
name = codes "content-length"

pub refused_here : (found : Option ℕ) (f : Pair) (fs : List Pair) (r : Refusal) → agree_at found f ≡ Err r → agreed found (f ∷ fs) ≡ Err r
refused_here found f fs r e = rw e refl

pub taken_here : (found now : Option ℕ) (f : Pair) (fs : List Pair) → agree_at found f ≡ Ok now → agreed found (f ∷ fs) ≡ agreed now fs
taken_here found now f fs e = rw e refl

-- all of the values tell the number
abbrev all_tell : ℕ → Bool → Result ℕ Refusal
all_tell n b = cond b (Ok n) (Err BadRequest)

one_more : (n : ℕ) (told : Option ℕ) (fs : List Pair) (vs : List (List ℕ)) → agreed (Some n) fs ≡ all_tell n (list_all (tells n) vs)
    → (agree (Some n) told >>= λ now. agreed now fs) ≡ all_tell n (is_number n told && list_all (tells n) vs)
one_more n None fs vs h = refl
one_more n (Some m) fs vs h = elim (m == n) as (λ b. ((cond b (Ok (Some n)) (Err BadRequest)) >>= λ now. agreed now fs) ≡ all_tell n (b && list_all (tells n) vs)) [ true ↦ h | false ↦ refl ]

told_again : (n : ℕ) (fs : List Pair) → agreed (Some n) fs ≡ all_tell n (list_all (tells n) (values_under name fs))
told_again n [] = refl
told_again n (f ∷ fs) =
    elim (has_name name f) as (λ b. ((cond b (agree (Some n) (length_in f.1)) (Ok (Some n))) >>= λ now. agreed now fs)
    ≡ all_tell n (list_all (tells n) (cons_option (cond b (Some f.1) None) (values_under name fs)))) [
      | true ↦ one_more n (length_in f.1) fs (values_under name fs) (told_again n fs)
      | false ↦ told_again n fs
    ]

first_told : (told : Option ℕ) (fs : List Pair) → (agree None told >>= λ now. agreed now fs) ≡ told_by_all (values_under name fs) told
first_told None fs = refl
first_told (Some n) fs = told_again n fs

pub all_agree : (fs : List Pair) → agreed None fs ≡ length_told (values_under name fs)
all_agree [] = refl
all_agree (f ∷ fs) =
    elim (has_name name f) as (λ b. ((cond b (agree None (length_in f.1)) (Ok None)) >>= λ now. agreed now fs)
    ≡ length_told (cons_option (cond b (Some f.1) None) (values_under name fs))) [
      | true ↦ first_told (length_in f.1) fs
      | false ↦ all_agree fs
    ]
