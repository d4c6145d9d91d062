-- Lines that are written piece by piece.
use Rattle.std.proofs.Common.{◌≡◌, ℕ, ◌<◌, List, [], ◌++◌, length, ap, sym, subst, ◌∙◌, Option, Some, append_assoc}
use Rattle.std.specs.Prelude.{MatchOption}
use Rattle.std.proofs.KnownBytes.{Appends-trans}
use Rattle.std.specs.Io.KnownBytes.{Appends}
use Rattle.std.specs.List.{flat_map}
use Rattle.field_merge.specs.declared.message.Message.{Message}
use Rattle.field_merge.specs.Log.{ended_line}
use Rattle.budget_top.specs.Fronts.{AppendsFront}
use Rattle.budget_top.proofs.Standing.{front_then, front_as, front_more, appends_as}

-- what was written and the lines that are left are together all lines
pub record IsGiven (old now : Option (List ℕ)) (left ms : List Message) : Type 0 where
  pub given : List ℕ
  pub written : Appends old now given
  pub whole : given ++ flat_map ended_line left ≡ flat_map ended_line ms

pub given_next : (a b c : Option (List ℕ)) (left rest ms : List Message) (piece text : List ℕ) → IsGiven a b left ms → flat_map ended_line left ≡ text ++ flat_map ended_line rest → piece ≡ text → Appends b c piece → IsGiven a c rest ms
given_next a b c left rest ms piece text g e p w = record {
  given = g.given ++ text;
  written = Appends-trans a b c g.given text g.written (appends_as b c piece text p w);
  whole = append_assoc g.given text (flat_map ended_line rest) ∙ ap (λ t. g.given ++ t) (sym e) ∙ g.whole;
}

pub given_in_part : (a b c : Option (List ℕ)) (left rest ms : List Message) (piece text : List ℕ) → IsGiven a b left ms → flat_map ended_line left ≡ text ++ flat_map ended_line rest → piece ≡ text → AppendsFront b c piece → AppendsFront a c (flat_map ended_line ms)
given_in_part a b c left rest ms piece text g e p f =
    front_as a c (g.given ++ (text ++ flat_map ended_line rest)) (flat_map ended_line ms) (ap (λ t. g.given ++ t) (sym e) ∙ g.whole)
    (front_then a b c g.given (text ++ flat_map ended_line rest) g.written (front_more b c text (flat_map ended_line rest) (front_as b c piece text p f)))

pub told_piece : (o : Option (List ℕ)) (piece : List ℕ) (left rest : List Message) → o ≡ Some piece → MatchOption o ((left ≡ []) × (rest ≡ [])) (λ text. (flat_map ended_line left ≡ text ++ flat_map ended_line rest) × (length rest < length left)) → flat_map ended_line left ≡ piece ++ flat_map ended_line rest
told_piece o piece left rest is h =
    (subst (λ (p : Option (List ℕ)). MatchOption p ((left ≡ []) × (rest ≡ [])) (λ text. (flat_map ended_line left ≡ text ++ flat_map ended_line rest) × (length rest < length left))) is h).0
