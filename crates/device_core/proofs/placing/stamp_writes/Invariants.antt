use Rattle.std.proofs.Common.{◌≡◌, ◌++◌, drop}
use Rattle.device_core.specs.Placing.{messages_from, stamped}
use Rattle.device_core.proofs.placing.stamp_writes.Given as goal

abbrev pub invariant-loop-at : goal.invariant-loop-at
invariant-loop-at l = l.messages.items ++ messages_from l.first l.at (drop l.at l.writes) ≡ stamped l.first l.writes
