use Rattle.std.proofs.Common.{◌≡◌, ◌++◌, drop}
use Rattle.device_core.specs.Placing.{ids_from, made_ids}
use Rattle.device_core.proofs.placing.made_ids.Given as goal

abbrev pub invariant-loop-at : goal.invariant-loop-at
invariant-loop-at l = l.ids.items ++ ids_from l.first l.at (drop l.at l.writes) ≡ made_ids l.first l.writes
