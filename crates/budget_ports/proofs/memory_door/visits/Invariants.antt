use Rattle.std.proofs.Common.{◌≡◌, ◌++◌, map}
use Rattle.budget_ports.specs.MemoryDoor.{visitor}
use Rattle.budget_ports.proofs.memory_door.visits.Given as goal

abbrev pub invariant-loop-came : goal.invariant-loop-came
invariant-loop-came l = l.visits.items ++ map (visitor l.room) l.came-iterator.rest.items ≡ map (visitor l.fn.room) l.fn.connections.items
