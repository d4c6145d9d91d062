use Rattle.std.proofs.Common.{◌≡◌, IfOk, List, Option, ap, ◌∙◌, subst}
use Rattle.finite_sums.specs.Maps.{Text}
use Rattle.bank_import.specs.Matching.{matched_among}
use Rattle.bank_import.specs.declared.facts.Candidate.{Candidate}
use Rattle.bank_import.proofs.Asked.{asked_are_enough}
use Rattle.bank_import.proofs.matching.matched_by.Goals as goal

pub returns-clause-found : goal.returns-clause-found
returns-clause-found c =
    let enough = asked_are_enough c.in_ok-wanted.wanted.amounts c.in_ok-wanted.wanted.ids c.args.records.now c.in_ok-wanted.ensures c.args.book.now.rows c.args.account.now in
    let same = ap (λ (cs : List Candidate). matched_among cs c.args.records.now) (c.in_ok-index.ensures ∙ c.in_ok-candidates.ensures) in
    subst (λ (x : List (Option Text)). IfOk c.matched.result (λ v. v.items ≡ x)) (same ∙ enough) c.matched.ensures.found
