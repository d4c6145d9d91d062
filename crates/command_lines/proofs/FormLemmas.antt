-- What holds of any form: the command that words make is told by their texts.
use Rattle.std.proofs.Common.{◌≡◌, ℕ, ◌+◌, List, [], ◌∷◌, map, Option, None, Some, ◌⊎◌, inl, inr, Ok, refl, ap, sym, subst, ◌∙◌}
use Rattle.std.specs.List.{AllByRecursion}
use Rattle.std.proofs.lemmas.List.{append-nil}
use Rattle.field_merge.specs.Escapes.{escaped, unescaped, bad_escape}
use Rattle.field_merge.proofs.EscapeLemmas.{unescaped-escaped, bad_escape-escaped}
use Rattle.field_merge.proofs.RawLines.{IsGood}
use Rattle.command_lines.specs.declared.command.Command.{Command}
use Rattle.command_lines.specs.Forms.{Wanted, no_more, word, may_end, some_texts, some_shares, misfit, ends, behind, unescaped_for, or_missing, command_of}

-- ---- a form that is no misfit

abbrev pub IsForm : Wanted → Type 0
IsForm misfit = ⊥
IsForm wanted = Unit {0}

pub form_or_misfit : (wanted : Wanted) → (wanted ≡ misfit) ⊎ IsForm wanted
form_or_misfit misfit = inl refl
form_or_misfit (no_more c) = inr tt
form_or_misfit (word next) = inr tt
form_or_misfit (may_end c next) = inr tt
form_or_misfit (some_texts texts made) = inr tt
form_or_misfit (some_shares shares made) = inr tt

pub at_end : (wanted : Wanted) (last : ℕ) → IsForm wanted → command_of wanted last [] ≡ or_missing (ends wanted) (last + 1)
at_end misfit last h = absurd h
at_end (no_more c) last h = refl
at_end (word next) last h = refl
at_end (may_end c next) last h = refl
at_end (some_texts texts made) last h = refl
at_end (some_shares shares made) last h = refl

pub at_word : (wanted : Wanted) (last : ℕ) (w : List ℕ) (ws : List (List ℕ)) → IsForm wanted
    → command_of wanted last (w ∷ ws) ≡ command_of (unescaped_for (behind wanted) w (bad_escape w)) (last + 1) ws
at_word misfit last w ws h = absurd h
at_word (no_more c) last w ws h = refl
at_word (word next) last w ws h = refl
at_word (may_end c next) last w ws h = refl
at_word (some_texts texts made) last w ws h = refl
at_word (some_shares shares made) last w ws h = refl

-- ---- texts that make a command

-- the texts of words make the command where this is wanted
abbrev pub Makes : Wanted → List (List ℕ) → Command → Type 0
Makes wanted [] c = ends wanted ≡ Some c
Makes wanted (text ∷ texts) c = Makes (behind wanted text) texts c

pub makes_none : (texts : List (List ℕ)) (c : Command) → Makes misfit texts c → ⊥
makes_none [] c h = cc
makes_none (text ∷ texts) c h = makes_none texts c h

missing_none : (o : Option Command) (index : ℕ) (c : Command) → or_missing o index ≡ Ok c → o ≡ Some c
missing_none None index c e = absurd (cc)
missing_none (Some found) index c e = let same : found ≡ c = cc in ap (λ x. Some x) same

-- the words of such texts are read as the command
pub makes_read : (ws : List (List ℕ)) (wanted : Wanted) (last : ℕ) (c : Command) → AllByRecursion IsGood ws → Makes wanted (map unescaped ws) c → command_of wanted last ws ≡ Ok c
makes_read [] wanted last c good h =
    elim (form_or_misfit wanted) [
      | inl is ↦ absurd (makes_none [] c (subst (λ x. Makes x [] c) is h))
      | inr form ↦ at_end wanted last form ∙ ap (λ o. or_missing o (last + 1)) h
    ]
makes_read (w ∷ ws) wanted last c good h =
    elim (form_or_misfit wanted) [
      | inl is ↦ absurd (makes_none (unescaped w ∷ map unescaped ws) c (subst (λ x. Makes x (unescaped w ∷ map unescaped ws) c) is h))
      | inr form ↦
          at_word wanted last w ws form
          ∙ ap (λ bad. command_of (unescaped_for (behind wanted) w bad) (last + 1) ws) good.0
          ∙ makes_read ws (behind wanted (unescaped w)) (last + 1) c good.1 h
    ]

-- behind a word that has no bad escape
by_escape : (next : List ℕ → Wanted) (w : List ℕ) (ws : List (List ℕ)) (last : ℕ) (c : Command) (bad : Option ℕ) → bad_escape w ≡ bad
    → (command_of (next (unescaped w)) (last + 1) ws ≡ Ok c → AllByRecursion IsGood ws × Makes (next (unescaped w)) (map unescaped ws) c)
    → command_of (unescaped_for next w bad) (last + 1) ws ≡ Ok c → AllByRecursion IsGood (w ∷ ws) × Makes (next (unescaped w)) (map unescaped ws) c
by_escape next w ws last c None is on read = let rest = on read in ((is, rest.0), rest.1)
by_escape next w ws last c (Some at) is on read = absurd (cc)

-- and words that are read as the command have no bad escape and such texts
pub read_makes : (ws : List (List ℕ)) (wanted : Wanted) (last : ℕ) (c : Command) → command_of wanted last ws ≡ Ok c → AllByRecursion IsGood ws × Makes wanted (map unescaped ws) c
read_makes [] wanted last c e =
    elim (form_or_misfit wanted) [
      | inl is ↦ absurd (let clash : command_of misfit last [] ≡ Ok c = ap (λ x. command_of x last []) (sym is) ∙ e in cc)
      | inr form ↦ (tt, missing_none (ends wanted) (last + 1) c (sym (at_end wanted last form) ∙ e))
    ]
read_makes (w ∷ ws) wanted last c e =
    elim (form_or_misfit wanted) [
      | inl is ↦ absurd (let clash : command_of misfit last (w ∷ ws) ≡ Ok c = ap (λ x. command_of x last (w ∷ ws)) (sym is) ∙ e in cc)
      | inr form ↦ by_escape (behind wanted) w ws last c (bad_escape w) refl (read_makes ws (behind wanted (unescaped w)) (last + 1) c) (sym (at_word wanted last w ws form) ∙ e)
    ]

good : (text : List ℕ) → bad_escape (escaped text) ≡ None
good text = ap bad_escape (sym (append-nil (escaped text))) ∙ bad_escape-escaped text [] refl

pub all_good : (texts : List (List ℕ)) → AllByRecursion IsGood (map escaped texts)
all_good [] = tt
all_good (text ∷ texts) = (good text, all_good texts)

pub texts_of_escaped : (texts : List (List ℕ)) → map unescaped (map escaped texts) ≡ texts
texts_of_escaped [] = refl
texts_of_escaped (text ∷ texts) = ap (λ t. t ∷ map unescaped (map escaped texts)) (unescaped-escaped text) ∙ ap (λ ts. text ∷ ts) (texts_of_escaped texts)

-- texts that make the command, as words
pub makes_written : (texts : List (List ℕ)) (wanted : Wanted) (last : ℕ) (c : Command) → Makes wanted texts c → command_of wanted last (map escaped texts) ≡ Ok c
makes_written texts wanted last c h =
    makes_read (map escaped texts) wanted last c (all_good texts) (subst (λ ts. Makes wanted ts c) (sym (texts_of_escaped texts)) h)
