use Rattle.std.proofs.Common.{◌≡◌, ◌≤◌, ◌-◌, length, take}
use Rattle.budget_ports.specs.Connections.{Stays}
use Rattle.sync_server.specs.Written.{WritesTo}
use Rattle.sync_server.proofs.writing.write_all.Given as goal

abbrev pub invariant-loop-at : goal.invariant-loop-at
invariant-loop-at g l = record {
  within : l.at ≤ length l.bytes;
  wrote : WritesTo (g.D.Door.outs l.initial.door) (g.D.Door.outs l.door) (take l.at l.bytes);
  waiting : Stays (g.D.Door.waiting l.initial.door) (g.D.Door.waiting l.door);
  count : g.D.Door.faults l.door ≡ g.D.Door.faults l.initial.door;
}

abbrev pub decreases-loop-at : goal.decreases-loop-at
decreases-loop-at g l = length l.initial.bytes - l.at
