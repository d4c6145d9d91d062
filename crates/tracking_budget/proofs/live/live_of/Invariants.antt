use Rattle.std.proofs.Common.{◌≡◌, ◌++◌, drop}
use Rattle.tracking_budget.specs.CellOf.{live_of}
use Rattle.tracking_budget.proofs.live.live_of.Given as goal

abbrev pub invariant-loop-group : goal.invariant-loop-group
invariant-loop-group l = l.live.items ++ live_of (drop l.group-index l.groups) ≡ live_of l.groups
