use Rattle.std.proofs.Common.{◌≡◌, ◌+◌, List, [], ◌∷◌, ◌++◌, append_assoc, drop, sym, ap, ◌∙◌, subst}
use Rattle.bank_import.specs.Groups.{group, of_span, span_cmp}
use Rattle.bank_import.specs.declared.facts.Candidate.{Candidate}
use Rattle.bank_import.proofs.Steps.{rest_at}
use Rattle.bank_import.proofs.Spanned.{more_near, none_near}
use Rattle.bank_import.proofs.groups.by_span.Goals as goal
use Rattle.bank_import.proofs.groups.by_span.Goals.{in-Some+in_ok-enter_near, in_default}

pub loop-candidate-preserved : goal.loop-candidate-preserved
loop-candidate-preserved c = λ amount at.
    let item = c.candidate-item.result in
    let rest = drop (c.loop-candidate.candidate-index + 1) c.args.candidates.now in
    let before = group span_cmp c.loop-candidate.groups (amount, at) in
    let later = of_span amount at rest in
    let whole = of_span amount at c.args.candidates.now in
    let inv = subst (λ (x : List Candidate). before ++ of_span amount at x ≡ whole) (rest_at c.args.candidates.now c.loop-candidate.candidate-index item c.loop-candidate-test.true c.candidate-item.is) (c.loop-candidate.invariant amount at) in
    let more : (before ++ of_span amount at (item ∷ [])) ++ later ≡ whole =
    append_assoc before (of_span amount at (item ∷ [])) later ∙ ap (λ xs. before ++ xs) (sym (more_near amount at item rest)) ∙ inv in
    elim c.match-candidate.branch [
      | in-Some+in_ok-enter_near w ↦ ap (λ m. group span_cmp m (amount, at) ++ later) w.groups-is ∙ ap (λ xs. xs ++ later) (w.in_ok-enter_near.ensures amount at) ∙ more
      | in_default w ↦
          ap (λ m. group span_cmp m (amount, at) ++ later) w.groups-is
          ∙ ap (λ xs. before ++ xs) (ap (λ xs. xs ++ later) (sym (none_near amount at item w.in_default.is)) ∙ sym (more_near amount at item rest)) ∙ inv
    ]
