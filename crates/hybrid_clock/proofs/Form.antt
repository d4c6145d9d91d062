-- What it means that a text has the form.
use Rattle.std.proofs.Common.{◌≡◌, ℕ, zero, suc, ◌+◌, ◌-◌, ◌<◌, ◌≤◌, Bool, true, false, not, ◌&&◌, cond, List, [], ◌∷◌, length, get_or, Option, None, Some, arith, refl, sym, ◌∙◌, inl, inr}
use Rattle.std.proofs.lemmas.Bool.{and_parts, cases_lt, or_cases, cond-false}
use Rattle.std.proofs.lemmas.Bool.Decides.{nat_tests}
use Rattle.std.proofs.lemmas.Iterator.Adapters.{position_from-zero}
use Rattle.std.specs.List.{fold, position_from}
use Rattle.std.specs.Prelude.{zip}
use Rattle.std.specs.Char.{is_ascii_digit}
use Rattle.std.specs.Int.{is_in_range}
use Rattle.hybrid_clock.specs.Reading.{form, is_allowed, misfit, hex_value}

-- each byte is allowed at its place, and there are as many as places
abbrev pub Fits : List ℕ → List ℕ → Type 0
Fits [] [] = Unit {0}
Fits [] (b ∷ bs) = ⊥
Fits (p ∷ ps) [] = ⊥
Fits (p ∷ ps) (b ∷ bs) = (is_allowed p b ≡ true) × Fits ps bs

abbrev pub is_misfit : ℕ × ℕ → Bool
is_misfit = λ (place, byte). not (is_allowed place byte)

one_more : (a : Bool) (n : ℕ) (rest : Option ℕ) → cond (not a) (Some n) rest ≡ None → (a ≡ true) × (rest ≡ None)
one_more true n rest e = (refl, e)
one_more false n rest e = absurd (cc)

fits_from : (n : ℕ) (ps bs : List ℕ) → length ps ≡ length bs → position_from is_misfit n (zip ps bs) ≡ None → Fits ps bs
fits_from n [] [] l e = tt
fits_from n [] (b ∷ bs) l e = absurd (omega arith)
fits_from n (p ∷ ps) [] l e = absurd (omega arith)
fits_from n (p ∷ ps) (b ∷ bs) l e =
    let s = one_more (is_allowed p b) n (position_from is_misfit (n + 1) (zip ps bs)) e in
    (s.0, fits_from (n + 1) ps bs (omega arith) s.1)

none_from : (n : ℕ) (ps bs : List ℕ) → Fits ps bs → position_from is_misfit n (zip ps bs) ≡ None
none_from n [] [] h = refl
none_from n [] (b ∷ bs) h = refl
none_from n (p ∷ ps) [] h = refl
none_from n (p ∷ ps) (b ∷ bs) h = let e = h.0 in rw e (none_from (n + 1) ps bs h.1)

-- a text without a misfit has the form
pub fits : (t : List ℕ) → length t ≡ 46 → misfit t ≡ None → Fits form t
unfolding misfit
fits t l e = fits_from 0 form t (sym l) (sym (position_from-zero is_misfit (zip form t)) ∙ e)

-- and the other way round
pub no_misfit : (t : List ℕ) → Fits form t → misfit t ≡ None
unfolding misfit
no_misfit t h = position_from-zero is_misfit (zip form t) ∙ none_from 0 form t h

folded : (n : ℕ) (b : Bool) (xs : List (ℕ × ℕ)) → fold (λ b at. b && is_allowed at.0 at.1) b xs ≡ true → (b ≡ true) × (position_from is_misfit n xs ≡ None)
folded n b [] e = (e, refl)
folded n b (x ∷ xs) e =
    let rest = folded (n + 1) (b && is_allowed x.0 x.1) xs e in
    let both = and_parts b (is_allowed x.0 x.1) rest.0 in
    let here = both.1 in
    (both.0, rw here rest.1)

-- where each byte is allowed at its place there is no misfit
pub formed : (t : List ℕ) → fold (λ b at. b && is_allowed at.0 at.1) true (zip form t) ≡ true → misfit t ≡ None
unfolding misfit
formed t e = position_from-zero is_misfit (zip form t) ∙ (folded 0 true (zip form t) e).1

pub fits_at : (ps bs : List ℕ) (i : ℕ) → i < length ps → Fits ps bs → is_allowed (get_or ps i 0) (get_or bs i 0) ≡ true
fits_at [] bs i l h = absurd (omega arith)
fits_at (p ∷ ps) [] i l h = absurd h
fits_at (p ∷ ps) (b ∷ bs) zero l h = h.0
fits_at (p ∷ ps) (b ∷ bs) (suc i) l h = fits_at ps bs i (omega arith) h.1

past_form : (n : ℕ) (ps : List ℕ) (i : ℕ) → length ps ≡ n → n ≤ i → get_or ps i 0 ≡ 0
past_form n [] i l h = refl
past_form n (p ∷ ps) zero l h = absurd (omega arith)
past_form n (p ∷ ps) (suc i) l h = past_form (n - 1) ps i (omega arith) (omega arith)

-- a place where the form has something is below 46
pub within_form : (i p : ℕ) → get_or form i 0 ≡ suc p → i < 46
within_form i p e = elim (cases_lt i 46) [ inl h ↦ h | inr h ↦ absurd (omega (arith, past_form 46 form i refl h, e)) ]

-- what the form allows at a place
pub allowed_at : (t : List ℕ) (i p : ℕ) → length t ≡ 46 → misfit t ≡ None → get_or form i 0 ≡ suc p → is_allowed (suc p) (get_or t i 0) ≡ true
allowed_at t i p l e at = rw (← at) (fits_at form t i (within_form i p at) (fits t l e))

-- a digit
pub digit_bounds : (b : ℕ) → is_ascii_digit b ≡ true → (48 ≤ b) × (b ≤ 57)
digit_bounds b h = grind (arith, nat_tests)

-- an upper-case hexadecimal digit that is no decimal one, and its value
pub hex_letter : (b : ℕ) → is_allowed 88 b ≡ true → is_ascii_digit b ≡ false → (65 ≤ b) × (b ≤ 70)
hex_letter b h f = elim (or_cases (is_ascii_digit b) (is_in_range 65 70 b) h) [
  | inl e ↦ absurd (cc)
  | inr e ↦ grind (arith, nat_tests)
]

pub hex_value-letter : (b : ℕ) → is_ascii_digit b ≡ false → 65 ≤ b → b - 65 + 10 ≡ hex_value b
hex_value-letter b f low =
    let same : b - 65 + 10 ≡ b - 55 = omega arith in
    same ∙ sym (cond-false (is_ascii_digit b) (b - 48) (b - 55) f)
