-- A step of a pass, and that a pass asks of what is taken no more than its answers.
use Rattle.std.proofs.Common.{◌≡◌, Bool, List, [], ◌∷◌, ◌++◌, Option, Some, None, ap, ◌∙◌, append_assoc}
use Rattle.finite_sums.specs.Maps.{Text}
use Rattle.bank_import.specs.Matching.{run_pass, turn, id_of, with_taken}
use Rattle.bank_import.specs.declared.facts.Facts.{Facts}
use Rattle.bank_import.specs.declared.facts.Candidate.{Candidate}
use Rattle.bank_import.specs.declared.facts.Pass.{Pass}

abbrev pub Test : Type 0
Test = Text → Bool

-- tests with the same answers are one
pub same_test : (f g : Test) → ((q : Text) → f q ≡ g q) → f ≡ g
same_test f g h = λ i. λ q. h q i

pub keeps_match : (p : Pass) (cs : List Candidate) (now later : Test) (r : Facts) (rs : List Facts) (m : Text) (ms found whole : List (Option Text))
    → ((q : Text) → later q ≡ now q)
    → found ++ run_pass p cs now (r ∷ rs) (Some m ∷ ms) ≡ whole → (found ++ Some m ∷ []) ++ run_pass p cs later rs ms ≡ whole
keeps_match p cs now later r rs m ms found whole same h =
    ap (λ t. (found ++ Some m ∷ []) ++ run_pass p cs t rs ms) (same_test later now same) ∙ append_assoc found (Some m ∷ []) (run_pass p cs now rs ms) ∙ h

pub takes_match : (p : Pass) (cs : List Candidate) (now later : Test) (r : Facts) (rs : List Facts) (o : Option Text) (ms found whole : List (Option Text))
    → o ≡ id_of (turn p r now cs) → ((q : Text) → later q ≡ with_taken o now q)
    → found ++ run_pass p cs now (r ∷ rs) (None ∷ ms) ≡ whole → (found ++ o ∷ []) ++ run_pass p cs later rs ms ≡ whole
takes_match p cs now later r rs o ms found whole e same h =
    ap (λ t. (found ++ o ∷ []) ++ run_pass p cs t rs ms) (same_test later (with_taken o now) same)
    ∙ ap (λ k. (found ++ k ∷ []) ++ run_pass p cs (with_taken k now) rs ms) e
    ∙ append_assoc found (id_of (turn p r now cs) ∷ []) (run_pass p cs (with_taken (id_of (turn p r now cs)) now) rs ms) ∙ h
