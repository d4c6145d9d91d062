-- Texts that come first, and blanks.
use Rattle.std.proofs.Common.{◌≡◌, ◌≢◌, ℕ, zero, suc, ◌<◌, Bool, true, false, cond, List, [], ◌∷◌, ◌++◌, length, get_or, Option, Some, None, MatchOption, Bor, refl, sym, ap, ◌∙◌, arith}
use Rattle.std.specs.Prelude.{◌==◌}
use Rattle.std.specs.List.{AllByRecursion}
use Rattle.std.proofs.lemmas.Bool.{eqb-true, ne_eqb}
use Rattle.std.proofs.lemmas.Bool.Decides.{nat_tests}
use Rattle.finite_sums.specs.Maps.{Text}
use Rattle.std.specs.Char.{is_ascii_digit}
use Rattle.goal_templates.specs.Amounts.{AreDigits, behind_point}
use Rattle.goal_templates.specs.Reading.{behind, with_first, cut}

some_is : (p q : Text × Text) → Some p ≡ Some q → p ≡ q
some_is p q h = cc

itself : (b : ℕ) → (b == b) ≡ true
itself b = grind (arith, nat_tests)

pub behind_is : (p t r : Text) → behind p t ≡ Some r → t ≡ p ++ r
behind_is [] t r h = cc
behind_is (p ∷ ps) [] r h = absurd (cc)
behind_is (p ∷ ps) (b ∷ bs) r h = by (p == b) refl (behind_is ps bs r) h
  where
    by : (e : Bool) → (p == b) ≡ e → (behind ps bs ≡ Some r → bs ≡ ps ++ r) → cond e (behind ps bs) None ≡ Some r → b ∷ bs ≡ p ∷ ps ++ r
    by true e next k = let s = eqb-true p b e in let i = next k in cc
    by false e next k = absurd (cc)

pub behind_at : (p r : Text) → behind p (p ++ r) ≡ Some r
behind_at [] r = refl
behind_at (p ∷ ps) r = ap (λ e. cond e (behind ps (ps ++ r)) None) (itself p) ∙ behind_at ps r

-- no blank stands in a text
abbrev pub NoBlank : Text → Type 0
NoBlank t = AllByRecursion (λ b. (b == 32) ≡ false) t

pub cut_at : (xs ys : Text) → NoBlank xs → cut (xs ++ 32 ∷ ys) ≡ Some (xs, ys)
cut_at [] ys h = refl
cut_at (x ∷ xs) ys h = ap (λ e. cond e (Some ([], xs ++ 32 ∷ ys)) (with_first x (cut (xs ++ 32 ∷ ys)))) h.0 ∙ ap (with_first x) (cut_at xs ys h.1)

pub cut_none : (xs : Text) → NoBlank xs → cut xs ≡ None
cut_none [] h = refl
cut_none (x ∷ xs) h = ap (λ e. cond e (Some ([], xs)) (with_first x (cut xs))) h.0 ∙ ap (with_first x) (cut_none xs h.1)

abbrev Cuts : Text → Type 0
Cuts bs = (v w : Text) → cut bs ≡ Some (v, w) → bs ≡ v ++ 32 ∷ w

pub cut_is : (t x y : Text) → cut t ≡ Some (x, y) → t ≡ x ++ 32 ∷ y
cut_is [] x y h = absurd (cc)
cut_is (b ∷ bs) x y h = by (cut_is bs) (b == 32) refl h
  where
    more : Cuts bs → (o : Option (Text × Text)) → cut bs ≡ o → with_first b o ≡ Some (x, y) → b ∷ bs ≡ x ++ 32 ∷ y
    more next None e k = absurd (cc)
    more next (Some p) e k =
        let i = next p.0 p.1 e in
        let pair = some_is (b ∷ p.0, p.1) (x, y) k in
        let first : b ∷ p.0 ≡ x = ap (λ q. q.0) pair in
        let second : p.1 ≡ y = ap (λ q. q.1) pair in
        ap (λ r. b ∷ r) i ∙ ap (λ f. f ++ 32 ∷ p.1) first ∙ ap (λ s. x ++ 32 ∷ s) second

    by : Cuts bs → (e : Bool) → (b == 32) ≡ e → cond e (Some ([], bs)) (with_first b (cut bs)) ≡ Some (x, y) → b ∷ bs ≡ x ++ 32 ∷ y
    by next true e k =
        let s = eqb-true b 32 e in
        let pair = some_is ([], bs) (x, y) k in
        let first : [] ≡ x = ap (λ q. q.0) pair in
        let second : bs ≡ y = ap (λ q. q.1) pair in
        ap (λ c. c ∷ bs) s ∙ ap (λ f. f ++ 32 ∷ bs) first ∙ ap (λ r. x ++ 32 ∷ r) second
    by next false e k = more next (cut bs) refl k

-- digits are no blanks
digit_no_blank : (b : ℕ) → is_ascii_digit b ≡ true → (b == 32) ≡ false
digit_no_blank b h = ne_eqb b 32 (λ e. absurd (let bad : false ≡ true = ap is_ascii_digit (sym e) ∙ h in cc))

pub digits_no_blank : (t : Text) → AreDigits t → NoBlank t
digits_no_blank [] h = tt
digits_no_blank (b ∷ bs) h = (digit_no_blank b h.0, digits_no_blank bs h.1)

pub point_no_blank : (t : Text) → AreDigits t → NoBlank (behind_point t)
point_no_blank [] h = tt
point_no_blank (b ∷ bs) h = (refl, digits_no_blank (b ∷ bs) h)

pub no_blank-append : (xs ys : Text) → NoBlank xs → NoBlank ys → NoBlank (xs ++ ys)
no_blank-append [] ys h k = k
no_blank-append (x ∷ xs) ys h k = (h.0, no_blank-append xs ys h.1 k)

-- a digit is no letter
pub other_than_digit : (p b : ℕ) (ps bs : Text) → is_ascii_digit b ≡ true → is_ascii_digit p ≡ false → behind (p ∷ ps) (b ∷ bs) ≡ None
other_than_digit p b ps bs h k = ap (λ e. cond e (behind ps bs) None) (ne_eqb p b (λ e. absurd (let bad : false ≡ true = sym k ∙ ap is_ascii_digit e ∙ h in cc)))

-- what a cut at the first blank gives
no_blank_from : (xs : Text) → ((i : ℕ) → i < length xs → get_or xs i 0 ≢ 32) → NoBlank xs
no_blank_from [] h = tt
no_blank_from (x ∷ xs) h = (ne_eqb x 32 (h zero (omega arith)), no_blank_from xs (λ i l. h (suc i) (omega arith)))

abbrev pub CutsAt : Text → Option (Bor (List ℕ) × Bor (List ℕ)) → Type 0
CutsAt bs r = MatchOption r ((i : ℕ) → i < length bs → get_or bs i 0 ≢ 32)
    (λ x. (bs ≡ x.0.now ++ (32 ∷ x.1.now)) × ((i : ℕ) → i < length x.0.now → get_or x.0.now i 0 ≢ 32))

pub cut-at : (bs : Text) (r : Option (Bor (List ℕ) × Bor (List ℕ))) → CutsAt bs r → MatchOption r (cut bs ≡ None) (λ p. cut bs ≡ Some (p.0.now, p.1.now))
cut-at bs None h = cut_none bs (no_blank_from bs h)
cut-at bs (Some x) h = ap cut h.0 ∙ cut_at x.0.now x.1.now (no_blank_from x.0.now h.1)
