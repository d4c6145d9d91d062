-- The index that is told is that of the first word that is not of its form.
use Rattle.std.proofs.Common.{◌≡◌, ℕ, suc, ◌+◌, ◌<◌, ◌≤◌, List, [], ◌∷◌, ◌++◌, length, map, take, Option, None, Some, inl, inr, Ok, Err, refl, ap, sym, subst, ◌∙◌, arith}
use Rattle.std.specs.Prelude.{codes}
use Rattle.field_merge.specs.Escapes.{escaped, unescaped, bad_escape}
use Rattle.command_lines.specs.declared.command.Command.{Command}
use Rattle.command_lines.specs.declared.command.Command.TheVariants.{Fields}
use Rattle.command_lines.specs.Forms.{Wanted, misfit, ends, behind, unescaped_for, or_missing, command_of}
use Rattle.command_lines.specs.Commands.{line_words, of_words}
use Rattle.command_lines.specs.FirstBad.{IsFirstBadWord, FirstBadIsTold}
use Rattle.command_lines.proofs.FormLemmas.{IsForm, form_or_misfit, at_end, at_word, makes_written}
use Rattle.command_lines.proofs.KnownLines.{line_known}
use Rattle.command_lines.proofs.Opening.{GoesOn, can_end, goes_behind}

-- ---- the words behind the name

-- of the words that stand where these are wanted, the one with this place is the first that is not of its form
record StopsAt (wanted : Wanted) (ws : List (List ℕ)) (place : ℕ) : Type 0 where
  within : place ≤ length ws
  before : (texts : List (List ℕ)) × (c : Command) × ((last : ℕ) → command_of wanted last (take place ws ++ map escaped texts) ≡ Ok c)
  at : (more : List (List ℕ)) (c : Command) (last : ℕ) → place < length ws → command_of wanted last (take (suc place) ws ++ more) ≡ Ok c → ⊥

-- the index that is told is that of such a place
abbrev Told : Wanted → List (List ℕ) → ℕ → ℕ → Type 0
Told wanted ws last index = (place : ℕ) × (index ≡ last + suc place) × StopsAt wanted ws place

missing_at : (o : Option Command) (at index : ℕ) → or_missing o at ≡ Err index → index ≡ at
missing_at None at index e = let same : at ≡ index = cc in sym same
missing_at (Some c) at index e = absurd (cc)

-- some texts make a command where this is wanted, from the first place on
from_here : (wanted : Wanted) (ws : List (List ℕ)) → IsForm wanted → GoesOn wanted → (texts : List (List ℕ)) × (c : Command) × ((last : ℕ) → command_of wanted last (take 0 ws ++ map escaped texts) ≡ Ok c)
from_here wanted ws form on = let end = can_end wanted form on in (end.0, end.1, λ last. makes_written end.0 wanted last end.1 end.2)

-- the first word, or one behind it, is the first that is not of its form
step : (wanted : Wanted) (w : List ℕ) (ws : List (List ℕ)) (last index : ℕ) (reached : Wanted) → IsForm wanted → GoesOn wanted → unescaped_for (behind wanted) w (bad_escape w) ≡ reached
    → (IsForm reached → Told reached ws (last + 1) index) → command_of reached (last + 1) ws ≡ Err index → Told wanted (w ∷ ws) last index
step wanted w ws last index reached form on e rest read =
    let same : (l : ℕ) (more : List (List ℕ)) → command_of wanted l (w ∷ more) ≡ command_of reached (l + 1) more =
    λ l more. at_word wanted l w more form ∙ ap (λ r. command_of r (l + 1) more) e in
    elim (form_or_misfit reached) [
      | inl none ↦
          let stop : last + 1 ≡ index = let told : command_of misfit (last + 1) ws ≡ Err index = ap (λ r. command_of r (last + 1) ws) (sym none) ∙ read in cc in (
            0,
            sym stop,
            record {
              within = omega arith;
              before = from_here wanted (w ∷ ws) form on;
              at = λ more c l below found.
                  let bad : command_of misfit (l + 1) more ≡ Ok c = ap (λ r. command_of r (l + 1) more) (sym none) ∙ sym (same l more) ∙ found in absurd (cc);
            },
          )
      | inr reaches ↦
          let told : Told reached ws (last + 1) index = rest reaches in
          let place : ℕ = told.0 in
          let stops : StopsAt reached ws place = told.2 in (
            suc place,
            omega (arith, told.1),
            record {
              within = omega (arith, stops.within);
              before = (stops.before.0, stops.before.1, λ l. same l (take place ws ++ map escaped stops.before.0) ∙ stops.before.2 (l + 1));
              at = λ more c l below found. stops.at more c (l + 1) (omega (arith, below)) (sym (same l (take (suc place) ws ++ more)) ∙ found);
            },
          )
    ]

goes_by : (bad : Option ℕ) (wanted : Wanted) (w : List ℕ) → GoesOn wanted → GoesOn (unescaped_for (behind wanted) w bad)
goes_by None wanted w on = goes_behind wanted (unescaped w) on
goes_by (Some at) wanted w on = tt

told_of : (ws : List (List ℕ)) (wanted : Wanted) (last index : ℕ) → IsForm wanted → GoesOn wanted → command_of wanted last ws ≡ Err index → Told wanted ws last index
told_of [] wanted last index form on e = (
  0,
  missing_at (ends wanted) (last + 1) index (sym (at_end wanted last form) ∙ e),
  record {
    within = omega arith;
    before = from_here wanted [] form on;
    at = λ more c l below read. absurd (omega (arith, below));
  },
)
told_of (w ∷ ws) wanted last index form on e =
    let reached : Wanted = unescaped_for (behind wanted) w (bad_escape w) in
    let read : command_of reached (last + 1) ws ≡ Err index = sym (at_word wanted last w ws form) ∙ e in
    step wanted w ws last index reached form on refl
    (λ reaches. told_of ws (unescaped_for (behind wanted) w (bad_escape w)) (last + 1) index reaches (goes_by (bad_escape w) wanted w on) read) read

-- ---- all words

first_of : (name : List ℕ) (ws : List (List ℕ)) (index place : ℕ) → index ≡ suc place → StopsAt (line_words name) ws place → IsFirstBadWord (name ∷ ws) index
first_of name ws index place is stops =
    subst (λ i. IsFirstBadWord (name ∷ ws) i) (sym is) (record {
      within = omega (arith, stops.within);
      before = (stops.before.0, stops.before.1, stops.before.2 0);
      at = λ more c below read. let count : suc place + 1 ≡ suc (suc place) = omega arith in
          stops.at more c 0 (omega (arith, below)) (subst (λ n. of_words (take n (name ∷ ws) ++ more) ≡ Ok c) count read);
    })

-- a line may be `fields`
first_at_name : (name : List ℕ) (ws : List (List ℕ)) (index : ℕ) → line_words name ≡ misfit → index ≡ 0 → IsFirstBadWord (name ∷ ws) index
first_at_name name ws index none is =
    subst (λ i. IsFirstBadWord (name ∷ ws) i) (sym is) (record {
      within = omega arith;
      before = (codes "fields" ∷ [], Fields, refl);
      at = λ more c below read. let same : command_of (line_words name) 0 more ≡ Err 0 = ap (λ r. command_of r 0 more) none in absurd (cc);
    })

pub first_is_told : FirstBadIsTold
first_is_told [] index e =
    let same : 0 ≡ index = cc in
    subst (λ i. IsFirstBadWord [] i) same (record {
      within = omega arith;
      before = (codes "fields" ∷ [], Fields, refl);
      at = λ more c below read. absurd (omega (arith, below));
    })
first_is_told (name ∷ ws) index e =
    elim (line_known name) [
      | inl none ↦ first_at_name name ws index none (let told : command_of misfit 0 ws ≡ Err index = ap (λ x. command_of x 0 ws) (sym none) ∙ e in let same : 0 ≡ index = cc in sym same)
      | inr line ↦
          let told = told_of ws (line_words name) 0 index line.form line.goes e in
          first_of name ws index told.0 (omega (arith, told.1)) told.2
    ]
