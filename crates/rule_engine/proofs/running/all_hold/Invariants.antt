use Rattle.std.proofs.Common.{◌≡◌, take, true}
use Rattle.std.specs.List.{list_all}
use Rattle.rule_engine.specs.Conditions.{holds_in}
use Rattle.rule_engine.proofs.running.all_hold.Given as goal

abbrev pub invariant-loop-condition : goal.invariant-loop-condition
invariant-loop-condition l = list_all (holds_in l.book.rows l.row) (take l.condition-index l.conditions) ≡ true
