-- What is to be known of a line, and that it is known of each of some lines.
use Rattle.std.proofs.Common.{◌≡◌, ℕ, Bool, true, false, cond, List, [], ◌∷◌, ◌⊎◌, inr, refl, sym, subst}
use Rattle.std.specs.List.{AllByRecursion}
use Rattle.std.specs.Str.{bytes_eq}
use Rattle.std.proofs.lemmas.Slice.Eq.{bytes_eq-Decides}
use Rattle.field_merge.specs.Escapes.{unescaped}
use Rattle.field_merge.proofs.RawLines.{IsGood}
use Rattle.command_lines.specs.Forms.{Wanted, misfit}
use Rattle.command_lines.specs.Commands.{LineForm, words_in}
use Rattle.command_lines.proofs.FormLemmas.{IsForm}
use Rattle.command_lines.proofs.Opening.{GoesOn}
use Rattle.command_lines.proofs.Telling.{Tells}

-- what is to be known of a line with this name that wants these words
pub record IsKnown (name : List ℕ) (wanted : Wanted) : Type 0 where
  pub good : IsGood name
  pub plain : unescaped name ≡ name
  pub form : IsForm wanted
  pub goes : GoesOn wanted
  pub tells : Tells (name ∷ []) wanted

abbrev pub AreKnown : List LineForm → Type 0
AreKnown lines = AllByRecursion (λ line. IsKnown line.0 line.1) lines

known_by : (t : Bool) (name known : List ℕ) (words rest : Wanted) → bytes_eq name known ≡ t → IsKnown known words
    → (rest ≡ misfit) ⊎ IsKnown name rest → (cond t words rest ≡ misfit) ⊎ IsKnown name (cond t words rest)
known_by true name known words rest e is on = inr (subst (λ n. IsKnown n words) (sym ((bytes_eq-Decides name known).0 e)) is)
known_by false name known words rest e is on = on

-- the words of a name are those of a known line, where the others are, too
pub known_in : (lines : List LineForm) (name : List ℕ) (others : Wanted) → AreKnown lines → (others ≡ misfit) ⊎ IsKnown name others
    → (words_in lines name others ≡ misfit) ⊎ IsKnown name (words_in lines name others)
known_in [] name others known on = on
known_in (line ∷ lines) name others known on =
    known_by (bytes_eq name line.0) name line.0 line.1 (words_in lines name others) refl known.0 (known_in lines name others known.1 on)
