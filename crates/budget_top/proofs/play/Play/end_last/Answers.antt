use Rattle.std.proofs.Common.{◌≡◌, [], Some, rules}
use Rattle.std.proofs.lemmas.Bool.{both_ways}
use Rattle.std.proofs.lemmas.Result.{on_ok_weaker, IfErr-weaker}
use Rattle.budget_top.proofs.Playing.{ended_now, ended_last, breaks_last}
use Rattle.budget_top.proofs.play.Play.end_last.Goals as goal

pub returns-then-is_empty-clause-ok : goal.returns-then-is_empty-clause-ok
returns-then-is_empty-clause-ok g c =
    let none : c.args.self.now.line ≡ Some [] = search rules in
    λ entry read s. ended_now entry _ read c.args.self.now none s

pub returns-clause-ok : goal.returns-clause-ok
returns-clause-ok g c =
    let some : c.args.self.now.line ≡ Some [] → ⊥ = λ e. both_ways c.is_empty.result c.if-is_empty.false (c.is_empty.ensures.1 e) in
    on_ok_weaker c.end_line.result (λ ends entry read s. ended_last entry _ _ read c.args.self.now c.end_line.new.self some s (ends entry read s)) c.end_line.ensures.ok

pub returns-clause-err : goal.returns-clause-err
returns-clause-err g c =
    let some : c.args.self.now.line ≡ Some [] → ⊥ = λ e. both_ways c.is_empty.result c.if-is_empty.false (c.is_empty.ensures.1 e) in
    IfErr-weaker c.end_line.result _ _ (λ stop breaks entry read s. breaks_last stop entry _ _ read c.args.self.now some s (breaks entry read s)) c.end_line.ensures.err
