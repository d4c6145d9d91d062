use Rattle.std.proofs.Common.{◌≡◌, ◌-◌, ◌++◌, List, ℕ, length}
use Rattle.std.specs.Io.KnownBytes.{Consumes}
use Rattle.budget_ports.specs.Connections.{Stays}
use Rattle.sync_server.proofs.asking.take_body.Given as goal

abbrev pub invariant-reads : goal.invariant-reads
invariant-reads g l = record {
  took : (more : List ℕ) × (l.taken.items ≡ l.initial.taken.items ++ more) × Consumes (g.D.Door.left l.initial.door) (g.D.Door.left l.door) more;
  waiting : Stays (g.D.Door.waiting l.initial.door) (g.D.Door.waiting l.door);
  outs : Stays (g.D.Door.outs l.initial.door) (g.D.Door.outs l.door);
  count : g.D.Door.faults l.door ≡ g.D.Door.faults l.initial.door;
}

abbrev pub decreases-reads : goal.decreases-reads
decreases-reads g l = l.end - length l.taken.items
