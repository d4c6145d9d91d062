use Rattle.std.proofs.Common.{◌≡◌, take, false}
use Rattle.std.specs.List.{list_any}
use Rattle.rule_engine.specs.Conditions.{holds_in}
use Rattle.rule_engine.proofs.running.one_holds.Given as goal

abbrev pub invariant-loop-condition : goal.invariant-loop-condition
invariant-loop-condition l = list_any (holds_in l.book.rows l.row) (take l.condition-index l.conditions) ≡ false
