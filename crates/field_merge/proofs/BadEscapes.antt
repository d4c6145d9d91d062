-- The place that is told of a bad escape.
use Rattle.std.proofs.Common.{◌≡◌, ℕ, ◌+◌, Bool, true, false, cond, ◌&&◌, eqb, List, [], ◌∷◌, Option, None, Some, refl, ap, sym, ◌∙◌, arith}
use Rattle.std.proofs.lemmas.Bool.{eqb-true}
use Rattle.field_merge.specs.Escapes.{is_letter, is_escape, place_after, bad_escape}
use Rattle.field_merge.specs.Laws.{IsBadEscape}
use Rattle.field_merge.proofs.EscapeLemmas.{bad_escape-plain}

place_some : (n : ℕ) (o : Option ℕ) (at : ℕ) → place_after n o ≡ Some at → (k : ℕ) × ((o ≡ Some k) × (n + k ≡ at))
place_some n None at h = absurd (cc)
place_some n (Some k) at h = (k, (refl, cc))

-- a backslash at the beginning
here : (b : ℕ) (rest : List ℕ) (at : ℕ) → eqb b 92 ≡ true → Some 0 ≡ Some at → ((c : ℕ) (more : List ℕ) → rest ≡ c ∷ more → is_letter c ≡ false) → IsBadEscape (b ∷ rest) at
here b rest at is h bad =
    let zeroth : 0 ≡ at = cc in
    record { front = []; rest = rest; cut = ap (λ x. x ∷ rest) (eqb-true b 92 is); place = zeroth; good = refl; bad = bad }

-- one behind an escape
behind_escape : (b c : ℕ) (rest : List ℕ) (at : ℕ) → is_escape b c ≡ true → place_after 2 (bad_escape rest) ≡ Some at → ((k : ℕ) → bad_escape rest ≡ Some k → IsBadEscape rest k) → IsBadEscape (b ∷ c ∷ rest) at
behind_escape b c rest at is h found =
    let later = place_some 2 (bad_escape rest) at h in
    let one = found later.0 later.1.0 in
    record {
      front = b ∷ c ∷ one.front;
      rest = one.rest;
      cut = ap (λ t. b ∷ c ∷ t) one.cut;
      place = omega (arith, one.place, later.1.1);
      good =
          ap (λ t. cond t (place_after 2 (bad_escape one.front)) (cond (eqb b 92) (Some 0) (place_after 1 (bad_escape (c ∷ one.front))))) is
          ∙ ap (place_after 2) one.good;
      bad = one.bad;
    }

-- one behind another byte
behind_plain : (b : ℕ) (rest : List ℕ) (at : ℕ) → eqb b 92 ≡ false → place_after 1 (bad_escape rest) ≡ Some at → ((k : ℕ) → bad_escape rest ≡ Some k → IsBadEscape rest k) → IsBadEscape (b ∷ rest) at
behind_plain b rest at is h found =
    let later = place_some 1 (bad_escape rest) at h in
    let one = found later.0 later.1.0 in
    record {
      front = b ∷ one.front;
      rest = one.rest;
      cut = ap (λ t. b ∷ t) one.cut;
      place = omega (arith, one.place, later.1.1);
      good = bad_escape-plain b one.front is ∙ ap (place_after 1) one.good;
      bad = one.bad;
    }

no_letter : (p q : Bool) → p ≡ true → (p && q) ≡ false → q ≡ false
no_letter true q h e = e
no_letter false q h e = absurd (cc)

no_letter_there : (b c : ℕ) (rest : List ℕ) → eqb b 92 ≡ true → is_escape b c ≡ false → (d : ℕ) (more : List ℕ) → c ∷ rest ≡ d ∷ more → is_letter d ≡ false
no_letter_there b c rest is none d more e =
    let same : c ≡ d = cc in
    ap is_letter (sym same) ∙ no_letter (eqb b 92) (is_letter c) is none

pair_found : (t p : Bool) (b c : ℕ) (rest : List ℕ) (at : ℕ) → is_escape b c ≡ t → eqb b 92 ≡ p
    → cond t (place_after 2 (bad_escape rest)) (cond p (Some 0) (place_after 1 (bad_escape (c ∷ rest)))) ≡ Some at
    → ((k : ℕ) → bad_escape rest ≡ Some k → IsBadEscape rest k) → ((k : ℕ) → bad_escape (c ∷ rest) ≡ Some k → IsBadEscape (c ∷ rest) k)
    → IsBadEscape (b ∷ c ∷ rest) at
pair_found true p b c rest at e is h short long = behind_escape b c rest at e h short
pair_found false true b c rest at e is h short long = here b (c ∷ rest) at is h (no_letter_there b c rest is e)
pair_found false false b c rest at e is h short long = behind_plain b (c ∷ rest) at is h long

last_found : (p : Bool) (b at : ℕ) → eqb b 92 ≡ p → cond p (Some 0) None ≡ Some at → IsBadEscape (b ∷ []) at
last_found true b at is h = here b [] at is h (λ c more e. absurd (cc))
last_found false b at is h = absurd (cc)

pub bad_found : (text : List ℕ) (at : ℕ) → bad_escape text ≡ Some at → IsBadEscape text at
bad_found [] at h = absurd (cc)
bad_found (b ∷ []) at h = last_found (eqb b 92) b at refl h
bad_found (b ∷ c ∷ rest) at h =
    pair_found (is_escape b c) (eqb b 92) b c rest at refl refl h (λ k e. bad_found rest k e) (λ k e. bad_found (c ∷ rest) k e)
