-- A hyphen alone behind an option: what `clap` takes otherwise is just what the line takes.
use Rattle.std.proofs.Common.{◌≡◌, ◌&&◌, ◌||◌, List, [], ◌∷◌, Bool, true, false, not, Option, Some, None, refl, sym, ap, ◌∙◌, true≢false, unwrap_or}
use Rattle.std.specs.Prelude.{if◌then◌else◌, codes, bytes_eq}
use Rattle.budget_top.specs.Line.{Pair, Look, dashes, long, short, plain, look, Place, anywhere, value_of, after_dashes, pair_then, part, parts, is_option, mode, has, each_once, is_line, line_of, line}
use Rattle.budget_top.specs.Clap.{wants, wants_value, hyphen_after}
use Rattle.budget_top.proofs.ClapWords.{Text, kind, look_is, taken, taken_part}

-- ---- without such a hyphen the parts are the same

or_none : (a b : Bool) → (a || b) ≡ false → (a ≡ false) × (b ≡ false)
or_none true b h = absurd (true≢false h)
or_none false b h = (refl, h)

pub record Same (words : List Text) : Type 0 where
  pub anywhere : (wanted : Bool) → hyphen_after wanted words ≡ false → parts anywhere words ≡ taken anywhere words
  pub value : (name : Text) → hyphen_after true words ≡ false → parts (value_of name) words ≡ taken (value_of name) words
  pub after : parts after_dashes words ≡ taken after_dashes words

same_anywhere : (word : Text) (words : List Text) → Same words → (shape : Look) → hyphen_after (wants shape) words ≡ false
    → part anywhere shape word (λ next. parts next words) ≡ taken_part anywhere shape word (λ next. taken next words)
same_anywhere word words later dashes h = later.after
same_anywhere word words later (long name (Some value)) h = ap (λ o. if is_option name then pair_then (name, value) o else None) (later.anywhere false h)
same_anywhere word words later (long name None) h = ap (λ o. if is_option name then o else None) (later.value name h)
same_anywhere word words later short h = refl
same_anywhere word words later plain h = ap (pair_then (mode, word)) (later.anywhere false h)

same_value : (name word : Text) (words : List Text) → Same words → (shape : Look) → bytes_eq word (codes "-") ≡ false → hyphen_after (wants shape) words ≡ false
    → part (value_of name) shape word (λ next. parts next words) ≡ taken_part (value_of name) shape word (λ next. taken next words)
same_value name word words later dashes e h = refl
same_value name word words later (long other value) e h = refl
same_value name word words later short e h = refl
same_value name word words later plain e h = rw e (ap (pair_then (name, word)) (later.anywhere false h))

at_kind : (place : Place) (word : Text) (words : List Text) → part place (look word) word (λ next. parts next words) ≡ taken_part place (look word) word (λ next. taken next words)
    → part place (look word) word (λ next. parts next words) ≡ taken_part place (kind word) word (λ next. taken next words)
at_kind place word words h = h ∙ ap (λ k. taken_part place k word (λ next. taken next words)) (look_is word)

pub same : (words : List Text) → Same words
same [] = record { anywhere = λ wanted h. refl; value = λ name h. refl; after = refl }
same (word ∷ words) =
    let later = same words in
    record {
      anywhere = λ wanted h. at_kind anywhere word words (same_anywhere word words later (look word) (or_none _ _ h).1);
      value = λ name h. at_kind (value_of name) word words (same_value name word words later (look word) (or_none _ _ h).0 (or_none _ _ h).1);
      after = ap (pair_then (mode, word)) later.after;
    }

-- ---- with such a hyphen there is no line

abbrev pub Never : Option (List Pair) → Type 0
Never o = (ps : List Pair) → o ≡ Some ps → each_once ps ≡ false

never_none : Never None
never_none ps e = absurd (let bad : None ≡ Some ps = e in cc)

and_none : (a : Bool) → (a && false) ≡ false
and_none true = refl
and_none false = refl

never_joined : (pair : Pair) (o : Option (List Pair)) → Never o → Never (pair_then pair o)
never_joined pair None never ps e = absurd (let bad : None ≡ Some ps = e in cc)
never_joined pair (Some more) never ps e =
    let is : pair ∷ more ≡ ps = ap (λ o. unwrap_or o ps) e in
    ap each_once (sym is) ∙ ap (λ b. not (has pair.0 more) && b) (never more refl) ∙ and_none _

never_if : (b : Bool) (o : Option (List Pair)) → Never o → Never (if b then o else None)
never_if true o never = never
never_if false o never = never_none

-- two mode words
pub never_two : (a b : Text) (o : Option (List Pair)) → Never (pair_then (mode, a) (pair_then (mode, b) o))
never_two a b None ps e = absurd (let bad : None ≡ Some ps = e in cc)
never_two a b (Some more) ps e =
    let is : (mode, a) ∷ (mode, b) ∷ more ≡ ps = ap (λ o. unwrap_or o ps) e in
    ap each_once (sym is)

pub record Refused (words : List Text) : Type 0 where
  pub anywhere : hyphen_after false words ≡ true → Never (parts anywhere words)
  pub value : (name : Text) → hyphen_after true words ≡ true → Never (parts (value_of name) words)
  pub after : hyphen_after false words ≡ true → Never (parts after_dashes words)

refused_anywhere : (word : Text) (words : List Text) → Refused words → (shape : Look) → hyphen_after (wants shape) words ≡ true
    → Never (part anywhere shape word (λ next. parts next words))
refused_anywhere word words later dashes h = later.after h
refused_anywhere word words later (long name (Some value)) h = never_if (is_option name) _ (never_joined (name, value) _ (later.anywhere h))
refused_anywhere word words later (long name None) h = never_if (is_option name) _ (later.value name h)
refused_anywhere word words later short h = never_none
refused_anywhere word words later plain h = never_joined (mode, word) _ (later.anywhere h)

refused_value : (name word : Text) (words : List Text) → Refused words → (shape : Look) (b : Bool) → bytes_eq word (codes "-") ≡ b → (b || hyphen_after (wants shape) words) ≡ true
    → Never (part (value_of name) shape word (λ next. parts next words))
refused_value name word words later dashes b e h = never_none
refused_value name word words later (long other value) b e h = never_none
refused_value name word words later short b e h = never_none
refused_value name word words later plain true e h = rw e never_none
refused_value name word words later plain false e h = rw e (never_joined (name, word) _ (later.anywhere h))

after_wanted : (word : Text) (words : List Text) → hyphen_after true words ≡ true → Never (pair_then (mode, word) (parts after_dashes words))
after_wanted word [] h = absurd (true≢false (sym h))
after_wanted word (next ∷ words) h = never_two word next (parts after_dashes words)

refused_after : (word : Text) (words : List Text) → Refused words → (wanted : Bool) → hyphen_after wanted words ≡ true → Never (pair_then (mode, word) (parts after_dashes words))
refused_after word words later true h = after_wanted word words h
refused_after word words later false h = never_joined (mode, word) _ (later.after h)

refused : (words : List Text) → Refused words
refused [] = record { anywhere = λ h. absurd (true≢false (sym h)); value = λ name h. absurd (true≢false (sym h)); after = λ h. absurd (true≢false (sym h)) }
refused (word ∷ words) =
    let later = refused words in
    record {
      anywhere = λ h. refused_anywhere word words later (look word) h;
      value = λ name h. refused_value name word words later (look word) (bytes_eq word (codes "-")) refl h;
      after = λ h. refused_after word words later (wants_value word) h;
    }

-- ---- the line

no_line : (o : Option (List Pair)) → ((ps : List Pair) → o ≡ Some ps → is_line ps ≡ false) → line_of o ≡ None
no_line None h = refl
no_line (Some ps) h = rw (h ps refl) refl

pub hyphen_is_no_line : (words : List Text) → hyphen_after false words ≡ true → line words ≡ None
hyphen_is_no_line words h = no_line (parts anywhere words) (λ ps e. ap (λ b. b && has mode ps) ((refused words).anywhere h ps e))

pub taken_is_line : (words : List Text) (ps : List Pair) → hyphen_after false words ≡ false → taken anywhere words ≡ Some ps → is_line ps ≡ true → line words ≡ Some ps
taken_is_line words ps none e is = ap line_of ((same words).anywhere false none ∙ e) ∙ ap (λ b. if b then Some ps else None) is

pub taken_is_no_line : (words : List Text) → hyphen_after false words ≡ false → ((ps : List Pair) → taken anywhere words ≡ Some ps → is_line ps ≡ false) → line words ≡ None
taken_is_no_line words none h = no_line (parts anywhere words) (λ ps e. h ps (sym ((same words).anywhere false none) ∙ e))
