-- Words without a backslash: each stands for itself.
use Rattle.std.proofs.Common.{◌≡◌, ℕ, ◌+◌, Bool, true, false, cond, eqb, not, ◌==◌, List, [], ◌∷◌, Option, None, refl, ap, sym, subst, ◌∙◌}
use Rattle.std.specs.List.{AllByRecursion, onto_first}
use Rattle.std.specs.Option.{is_some}
use Rattle.std.proofs.lemmas.Bool.{or_from, or_parts}
use Rattle.memchr.specs.Find.{IsFirstByte, is_byte}
use Rattle.field_merge.specs.Escapes.{unescaped, bad_escape, has_backslash, place_after}
use Rattle.field_merge.specs.Lines.{parts}
use Rattle.field_merge.proofs.EscapeLemmas.{bad_escape-plain, known_whole, plain_none}
use Rattle.command_lines.specs.Forms.{Wanted, word, unescaped_for, command_of}
use Rattle.command_lines.specs.Unread.{ArePlainWords}

-- a text without a backslash has no bad escape
pub plain_is_good : (text : List ℕ) → has_backslash text ≡ false → bad_escape text ≡ None
plain_is_good [] h = refl
plain_is_good (x ∷ xs) h =
    let both = or_parts (x == 92) (has_backslash xs) h in bad_escape-plain x xs both.0 ∙ ap (place_after 1) (plain_is_good xs both.1)

-- and stands for itself
pub plain_is_whole : (text : List ℕ) → has_backslash text ≡ false → unescaped text ≡ text
plain_is_whole text h = known_whole true text (λ e. h)

abbrev ArePlain : List (List ℕ) → Type 0
ArePlain words = AllByRecursion (λ w. has_backslash w ≡ false) words

plain_front : (x : ℕ) (ps : List (List ℕ)) → eqb x 92 ≡ false → ArePlain ps → ArePlain (onto_first x ps)
plain_front x [] h all = (or_from (x == 92) false h refl, tt)
plain_front x (p ∷ ps) h all = (or_from (x == 92) (has_backslash p) h all.0, all.1)

plain_at : (x : ℕ) (b : Bool) (ps : List (List ℕ)) → eqb x 92 ≡ false → ArePlain ps → ArePlain (cond b ([] ∷ ps) (onto_first x ps))
plain_at x true ps h all = (refl, all)
plain_at x false ps h all = plain_front x ps h all

-- the words of a text without a backslash have none
pub plain_parts : (text : List ℕ) → has_backslash text ≡ false → ArePlain (parts text)
plain_parts [] h = (refl, tt)
plain_parts (x ∷ xs) h =
    let both = or_parts (x == 92) (has_backslash xs) h in plain_at x (eqb x 9) (parts xs) both.0 (plain_parts xs both.1)

-- what a search for a backslash tells of the words
pub plain_words : (plain : Bool) (found : Option ℕ) (bs text : List ℕ) → IsFirstByte (is_byte 92) bs found → is_some found ≡ not plain → bs ≡ text → ArePlainWords plain (parts text)
plain_words true found bs text h e is = λ yes. plain_parts text (plain_none true found bs text h e is)
plain_words false found bs text h e is = λ yes. absurd (cc)

-- the first of such words
pub plain_first : (words : List (List ℕ)) (w : List ℕ) (ws : List (List ℕ)) → ArePlain words → words ≡ w ∷ ws → has_backslash w ≡ false
plain_first words w ws all e = (subst ArePlain e all).0

-- a word without a backslash is read as its own text
pub plain_read : (next : List ℕ → Wanted) (last later : ℕ) (w : List ℕ) (ws : List (List ℕ)) → has_backslash w ≡ false → later ≡ last + 1
    → command_of (word next) last (w ∷ ws) ≡ command_of (next w) later ws
plain_read next last later w ws h e =
    ap (λ bad. command_of (unescaped_for next w bad) (last + 1) ws) (plain_is_good w h)
    ∙ ap (λ text. command_of (next text) (last + 1) ws) (plain_is_whole w h)
    ∙ ap (λ n. command_of (next w) n ws) (sym e)
