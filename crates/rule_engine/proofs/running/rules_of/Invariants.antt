use Rattle.std.proofs.Common.{◌≡◌, ◌++◌}
use Rattle.std.specs.List.{filter_map}
use Rattle.std.specs.FinMap.{entries}
use Rattle.rule_engine.specs.Running.{read_live}
use Rattle.rule_engine.proofs.running.rules_of.Given as goal

abbrev pub invariant-loop-id : goal.invariant-loop-id
invariant-loop-id l = l.rules.items ++ filter_map read_live l.id-iterator ≡ filter_map read_live (entries l.book.rows.rules)
