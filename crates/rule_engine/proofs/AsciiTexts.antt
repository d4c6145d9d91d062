-- Texts of ASCII: folded, each byte is its lower case; and a part stands at the front of a text or further on.
use Rattle.std.proofs.Common.{arith, Some, None, slice_index_or, ◌≡◌, ◌+◌, ◌-◌, ◌≤◌, ◌<◌, ℕ, suc, List, [], ◌∷◌, ◌++◌, ◌==◌, ◌||◌, ◌&&◌, true, false, length, take, drop, map, refl, subst, ap, sym, ◌∙◌, chars, encode_utf8_all}
use Rattle.std.specs.Char.{to_ascii_lowercase}
use Rattle.std.specs.Str.{IsAscii}
use Rattle.std.proofs.lemmas.Bool.{and_parts, and_from, eqb-true, eq-eqb}
use Rattle.std.proofs.lemmas.Grind.{common_steps}
use Rattle.std.proofs.Math.Bool.{and-false}
use Rattle.std.proofs.lemmas.Bool.{false_from_ne_true}
use Rattle.std.specs.List.{slice_get}
use Rattle.std.proofs.lemmas.List.{drop_more, take-map, drop-map, drop-drop, length-map}
use Rattle.rule_engine.proofs.Parts.{at_front}
use Rattle.std.proofs.lemmas.Str.{chars-IsAscii, encode_ascii}
use Rattle.std.proofs.lemmas.Str.Ascii.{IsAscii-map, lowercase_ascii}
use Rattle.caseless.specs.Caseless.{default_case_fold}
use Rattle.caseless.proofs.CaselessLemmas.{default_case_fold-ascii, All-chars}
use Rattle.rule_engine.specs.Conditions.{begins, has_part, folded}

pub folds : (bs : List ℕ) → IsAscii bs → default_case_fold (chars bs) ≡ map to_ascii_lowercase bs
folds bs h = default_case_fold-ascii (chars bs) (All-chars bs h) ∙ ap (map to_ascii_lowercase) (chars-IsAscii bs h)

encodes : (bs : List ℕ) → IsAscii bs → encode_utf8_all bs ≡ bs
encodes [] h = refl
encodes (b ∷ bs) h = ap (λ xs. xs ++ encode_utf8_all bs) (encode_ascii b (h 0)) ∙ ap (λ xs. b ∷ xs) (encodes bs (λ i. h (suc i)))

pub folded_ascii : (bs : List ℕ) → IsAscii bs → folded bs ≡ map to_ascii_lowercase bs
unfolding folded
folded_ascii bs h =
    ap encode_utf8_all (folds bs h)
    ∙ encodes (map to_ascii_lowercase bs) (IsAscii-map to_ascii_lowercase bs lowercase_ascii h)

pub begins_so : (part text : List ℕ) → take (length part) text ≡ part → begins part text ≡ true
begins_so [] text h = refl
begins_so (p ∷ part) [] h = absurd (cc)
begins_so (p ∷ part) (b ∷ text) h = and_from (p == b) (begins part text) (eq-eqb p b (cc)) (begins_so part text (cc))

pub begin_so : (part text : List ℕ) → begins part text ≡ true → take (length part) text ≡ part
begin_so [] text h = refl
begin_so (p ∷ part) [] h = absurd (cc)
begin_so (p ∷ part) (b ∷ text) h =
    let both = and_parts (p == b) (begins part text) h in
    ap (λ x. x ∷ take (length part) text) (sym (eqb-true p b both.0)) ∙ ap (λ xs. p ∷ xs) (begin_so part text both.1)

pub further : (part text : List ℕ) → begins part text ≡ false → has_part part text ≡ has_part part (drop 1 text)
further part [] h = refl
further part (c ∷ text) h = ap (λ x. x || has_part part text) h

short : (part text : List ℕ) → length text < length part → begins part text ≡ false
short [] text h = absurd (grind arith)
short (p ∷ part) [] h = refl
short (p ∷ part) (c ∷ text) h = ap (λ x. (p == c) && x) (short part text (grind arith)) ∙ and-false (p == c)

pub shorter : (part text : List ℕ) → length text < length part → has_part part text ≡ false
shorter part [] h = short part [] h
shorter part (c ∷ text) h = ap (λ x. x || has_part part text) (short part (c ∷ text) h) ∙ shorter part text (grind arith)

-- ---- letters of either case

abbrev pub lower : List ℕ → List ℕ
lower bs = map to_ascii_lowercase bs

taken : (part text : List ℕ) (at : ℕ) → lower (take (at + length part - at) (drop at text)) ≡ take (length (lower part)) (lower (drop at text))
taken part text at =
    ap (λ n. lower (take n (drop at text))) (grind arith)
    ∙ sym (take-map to_ascii_lowercase (length part) (drop at text))
    ∙ ap (λ n. take n (lower (drop at text))) (sym (length-map part to_ascii_lowercase))

pub found_there : (part text : List ℕ) (at : ℕ) → lower (take (at + length part - at) (drop at text)) ≡ lower part → has_part (lower part) (lower (drop at text)) ≡ true
found_there part text at h = at_front (lower part) (lower (drop at text)) (begins_so (lower part) (lower (drop at text)) (sym (taken part text at) ∙ h))

dropped : (at : ℕ) (text : List ℕ) → drop 1 (drop at text) ≡ drop (at + 1) text
dropped at text = drop-drop 1 at text

pub not_there : (part text : List ℕ) (at : ℕ) → (lower (take (at + length part - at) (drop at text)) ≡ lower part → ⊥) → has_part (lower part) (lower (drop at text)) ≡ has_part (lower part) (lower (drop (at + 1) text))
not_there part text at h =
    further (lower part) (lower (drop at text)) (false_from_ne_true _ (λ b. h (taken part text at ∙ begin_so (lower part) (lower (drop at text)) b)))
    ∙ ap (has_part (lower part)) (drop-map to_ascii_lowercase 1 (drop at text) ∙ ap lower (dropped at text))

small : (part text : List ℕ) (at : ℕ) → at ≤ length text → length text < at + length part → length (lower (drop at text)) < length (lower part)
small part text at within h =
    subst (λ n. length (lower (drop at text)) < n) (sym (length-map part to_ascii_lowercase)) (subst (λ n. n < length part) (sym (length-map (drop at text) to_ascii_lowercase)) (grind (arith, common_steps)))

pub no_room : (part text : List ℕ) (at : ℕ) → at ≤ length text → length text < at + length part → has_part (lower part) (lower (drop at text)) ≡ false
no_room part text at within h = shorter (lower part) (lower (drop at text)) (small part text at within h)

pub some_part : (part text : List ℕ) (at : ℕ) → (lower (take (at + length part - at) (drop at text)) ≡ lower part → ⊥) → 1 ≤ length part
some_part [] text at h = absurd (h (taken [] text at))
some_part (p ∷ part) text at h = grind arith

-- where the first letter is another, the part doesn't stand there
pub other_letter : (part text : List ℕ) (at p : ℕ) → slice_get part 0 ≡ Some p → at + length part ≤ length text → (to_ascii_lowercase (slice_index_or text at 0) ≡ to_ascii_lowercase p → ⊥) → lower (take (at + length part - at) (drop at text)) ≡ lower part → ⊥
other_letter [] text at p first room other h = absurd (cc)
other_letter (q ∷ part) text at p first room other h =
    let many : suc (length part) ≡ at + suc (length part) - at = grind arith in
    let begun : slice_index_or text at 0 ∷ drop (at + 1) text ≡ drop at text = sym (drop_more text at 0 (grind arith)) in
    let same : lower (take (suc (length part)) (slice_index_or text at 0 ∷ drop (at + 1) text)) ≡ lower (q ∷ part) =
    ap (λ xs. lower (take (suc (length part)) xs)) begun ∙ ap (λ n. lower (take n (drop at text))) many ∙ h in
    other (cc)

pub nothing_there : (part text : List ℕ) → slice_get part 0 ≡ None → has_part (lower part) (lower text) ≡ true
nothing_there [] text h = at_front [] (lower text) refl
nothing_there (p ∷ part) text h = absurd (cc)
