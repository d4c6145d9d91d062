use Rattle.std.proofs.Common.{◌≡◌, drop}
use Rattle.std.specs.List.{fold}
use Rattle.rule_engine.specs.Running.{acted}
use Rattle.rule_engine.proofs.running.act_all.Given as goal

abbrev pub invariant-loop-action : goal.invariant-loop-action
invariant-loop-action l =
    fold (acted l.book.rows) l.now (drop l.action-index l.actions) ≡ fold (acted l.book.rows) l.fn.row l.actions
