use Rattle.std.proofs.Common.{◌≡◌, ℕ, List, [], ◌∷◌, ◌++◌, Some, append-nil, subst}
use Rattle.std.proofs.lemmas.Bool.{both_ways}
use Rattle.std.proofs.lemmas.Result.{on_ok_weaker, on_err_weaker}
use Rattle.budget_top.specs.Fronts.{AppendsFront}
use Rattle.budget_top.specs.Lines.{whole_lines}
use Rattle.budget_top.specs.Steps.{Stands}
use Rattle.budget_top.specs.Verdicts.{bad_lines}
use Rattle.budget_top.proofs.Ending.{ended_last, breaks_last}
use Rattle.budget_top.proofs.merge.Merge.end_last.Goals as goal

pub returns-clause-ok : goal.returns-clause-ok
returns-clause-ok g c =
    let some : c.args.self.now.line ≡ Some [] → ⊥ = λ e. both_ways c.is_empty.result c.if-is_empty.false (c.is_empty.ensures.1 e) in
    on_ok_weaker c.end_line.result (λ ends entry read h. ended_last entry _ _ read c.args.self.now c.end_line.new.self some h (subst (λ (xs : List ℕ). Stands entry (g.W.Sink.taken c.end_line.new.sink) (xs ++ 10 ∷ []) c.end_line.new.self) (append-nil read) (ends entry read h))) c.end_line.ensures.ok

pub returns-clause-err : goal.returns-clause-err
returns-clause-err g c =
    let some : c.args.self.now.line ≡ Some [] → ⊥ = λ e. both_ways c.is_empty.result c.if-is_empty.false (c.is_empty.ensures.1 e) in
    on_err_weaker c.end_line.result (λ breaks entry read h. breaks_last entry (g.W.Sink.taken c.args.sink.now) _ read c.args.self.now some h (subst (λ (xs : List ℕ). AppendsFront entry (g.W.Sink.taken c.end_line.new.sink) (bad_lines (whole_lines (xs ++ 10 ∷ [])))) (append-nil read) (breaks entry read h))) c.end_line.ensures.err
