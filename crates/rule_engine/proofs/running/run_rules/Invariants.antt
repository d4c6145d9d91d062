use Rattle.std.proofs.Common.{◌≡◌, drop}
use Rattle.std.specs.List.{fold}
use Rattle.rule_engine.specs.Running.{applied}
use Rattle.rule_engine.proofs.running.run_rules.Given as goal

abbrev pub invariant-loop-rule : goal.invariant-loop-rule
invariant-loop-rule l = fold (applied l.book.rows) l.now (drop l.rule-index l.rules) ≡ fold (applied l.book.rows) l.fn.row l.rules
