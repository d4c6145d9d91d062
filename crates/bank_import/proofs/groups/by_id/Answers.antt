use Rattle.std.proofs.Common.{◌≡◌, ◌+◌, Bool, true, false, cond, List, [], ◌∷◌, ◌++◌, append_assoc, Option, Some, None, drop, ap, ◌∙◌, subst}
use Rattle.finite_sums.specs.Maps.{Text, text_cmp}
use Rattle.book_edits.specs.Checks.{same_id}
use Rattle.bank_import.specs.Matching.{are_same}
use Rattle.bank_import.specs.Groups.{group, with_id}
use Rattle.bank_import.specs.declared.facts.Candidate.{Candidate}
use Rattle.bank_import.proofs.Steps.{rest_at}
use Rattle.bank_import.proofs.groups.by_id.Goals as goal
use Rattle.bank_import.proofs.groups.by_id.Goals.{in-Some+in_ok-copy+in_ok-copy-2+in_ok-enter, in_default}

one_more : (b : Bool) (g rest whole : List Candidate) (c : Candidate) → g ++ cond b (c ∷ rest) rest ≡ whole → cond b (g ++ c ∷ []) g ++ rest ≡ whole
one_more true g rest whole c h = append_assoc g (c ∷ []) rest ∙ h
one_more false g rest whole c h = h

pub loop-candidate-preserved : goal.loop-candidate-preserved
loop-candidate-preserved c = λ k.
    let item = c.candidate-item.result in
    let rest = drop (c.loop-candidate.candidate-index + 1) c.args.candidates.now in
    let before = group text_cmp c.loop-candidate.groups k in
    let whole = with_id k c.args.candidates.now in
    let inv = subst (λ (x : List Candidate). before ++ with_id k x ≡ whole) (rest_at c.args.candidates.now c.loop-candidate.candidate-index item c.loop-candidate-test.true c.candidate-item.is) (c.loop-candidate.invariant k) in
    let at = λ (o : Option Text) (e : item.financial_id ≡ o). subst (λ (o : Option Text). before ++ cond (are_same o (Some k)) (item ∷ with_id k rest) (with_id k rest) ≡ whole) e inv in
    elim c.match-candidate.branch [
      | in-Some+in_ok-copy+in_ok-copy-2+in_ok-enter w ↦
          ap (λ m. group text_cmp m k ++ with_id k rest) w.groups-is
          ∙ ap (λ g. g ++ with_id k rest) (w.in_ok-enter.ensures k
          ∙ ap (λ i. cond (same_id i k) (before ++ w.in_ok-copy-2.field-0 ∷ []) before) w.in_ok-copy.ensures
          ∙ ap (λ d. cond (same_id w.in-Some.id k) (before ++ d ∷ []) before) w.in_ok-copy-2.ensures)
          ∙ one_more (same_id w.in-Some.id k) before (with_id k rest) whole item (at (Some w.in-Some.id) w.in-Some.is)
      | in_default w ↦ ap (λ m. group text_cmp m k ++ with_id k rest) w.groups-is ∙ at None w.in_default.is
    ]
