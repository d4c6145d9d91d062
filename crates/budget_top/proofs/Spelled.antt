-- Each text of UTF-8 is spelled.
use Rattle.std.specs.List.{All}
use Rattle.std.specs.Borrow.{Bor}
use Rattle.std.proofs.Common.{map, ◌≡◌, ℕ, suc, ◌==◌, List, [], ◌∷◌, Bool, true, false, Some, None, refl, sym, ap, ◌∙◌, subst, arith}
use Rattle.std.specs.Prelude.{IsUtf8, chars, encode_utf8_all, if◌then◌else◌}
use Rattle.std.specs.List.{slice_get}
use Rattle.std.specs.Option.{unwrap_or}
use Rattle.std.proofs.lemmas.Str.{IsUtf8-drop, IsCharBoundary-after_ascii, encodes-chars}
use Rattle.std.specs.Option.{option_and_then}
use Rattle.clap.specs.Lexer.{short_of_rest}
use Rattle.budget_top.proofs.ClapWords.{Text, IsSpelled, AreSpelled}

first_char : (y : ℕ) (ys : Text) (cs : List ℕ) → encode_utf8_all cs ≡ y ∷ ys → (x : ℕ) × (slice_get cs 0 ≡ Some x)
first_char y ys [] e = absurd (let bad : [] ≡ y ∷ ys = e in cc)
first_char y ys (c ∷ cs) e = (c, refl)

after_hyphen : (y : ℕ) (ys : Text) → IsUtf8 (45 ∷ y ∷ ys) → IsUtf8 (y ∷ ys)
after_hyphen y ys h = IsUtf8-drop (45 ∷ y ∷ ys) 1 h (IsCharBoundary-after_ascii (45 ∷ y ∷ ys) 0 h (omega arith) (omega arith))

at_second : (y : ℕ) (ys flags : Text) (b : Bool) → IsUtf8 (y ∷ ys) → (if b then None else Some (y ∷ ys)) ≡ Some flags → (z : ℕ) × (zs : Text) × (x : ℕ) × (flags ≡ z ∷ zs) × (slice_get (chars flags) 0 ≡ Some x)
at_second y ys flags true h e = absurd (let bad : None ≡ Some flags = e in cc)
at_second y ys flags false h e =
    let same : flags ≡ y ∷ ys = sym (ap (λ o. unwrap_or o flags) e) in
    let first = first_char y ys (chars (y ∷ ys)) (encodes-chars (y ∷ ys) h) in
    (y, ys, first.0, same, ap (λ f. slice_get (chars f) 0) same ∙ first.1)

at_first : (x : ℕ) (rest flags : Text) (b : Bool) → (x == 45) ≡ b → IsUtf8 (x ∷ rest) → option_and_then short_of_rest (if b then Some rest else None) ≡ Some flags
    → (z : ℕ) × (zs : Text) × (c : ℕ) × (flags ≡ z ∷ zs) × (slice_get (chars flags) 0 ≡ Some c)
at_first x rest flags false t h e = absurd (let bad : None ≡ Some flags = e in cc)
at_first x [] flags true t h e = absurd (let bad : None ≡ Some flags = e in cc)
at_first x (y ∷ ys) flags true t h e =
    at_second y ys flags (y == 45) (after_hyphen y ys (let is : x ≡ 45 = grind arith in subst (λ z. IsUtf8 (z ∷ y ∷ ys)) is h)) e

pub spelled : (word : Text) → IsUtf8 word → IsSpelled word
spelled [] h flags e = absurd (let bad : None ≡ Some flags = e in cc)
spelled (x ∷ rest) h flags e = at_first x rest flags (x == 45) refl h e

pub are_spelled : (words : List (Bor Text)) → All (λ w. IsUtf8 w.now) words → AreSpelled (map (λ w. w.now) words)
are_spelled [] h = tt
are_spelled (word ∷ words) h = (spelled word.now (h 0 word (omega arith)), are_spelled words (λ k d lt. h (suc k) d (omega arith)))
