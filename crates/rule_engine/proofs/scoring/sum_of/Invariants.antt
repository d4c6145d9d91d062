use Rattle.std.proofs.Common.{◌≡◌, ◌≤◌, ◌*◌, take}
use Rattle.std.specs.List.{sum_by}
use Rattle.rule_engine.specs.declared.rule.Condition.{Condition}
use Rattle.rule_engine.specs.Scores.{op_score}
use Rattle.rule_engine.proofs.scoring.sum_of.Given as goal

abbrev pub invariant-loop-condition : goal.invariant-loop-condition
invariant-loop-condition l =
    (l.sum ≡ sum_by (λ (c : Condition). op_score c.op) (take l.condition-index l.conditions)) × (l.sum ≤ 10 * l.condition-index)
