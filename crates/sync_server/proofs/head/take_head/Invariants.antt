use Rattle.std.proofs.Common.{◌≡◌, ◌≤◌, ◌-◌, length}
use Rattle.std.specs.Io.KnownBytes.{Consumes}
use Rattle.budget_ports.specs.Connections.{Stays}
use Rattle.sync_server.proofs.head.take_head.Given as goal

abbrev pub invariant-reads : goal.invariant-reads
invariant-reads g l = record {
  took : Consumes (g.D.Door.left l.initial.door) (g.D.Door.left l.door) l.taken.items;
  few : length l.taken.items ≤ 65536;
  waiting : Stays (g.D.Door.waiting l.initial.door) (g.D.Door.waiting l.door);
  outs : Stays (g.D.Door.outs l.initial.door) (g.D.Door.outs l.door);
  count : g.D.Door.faults l.door ≡ g.D.Door.faults l.initial.door;
}

abbrev pub decreases-reads : goal.decreases-reads
decreases-reads g l = 65536 - length l.taken.items
