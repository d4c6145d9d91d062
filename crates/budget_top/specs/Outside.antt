-- What the objects that a run is handed tell.
use Rattle.std.specs.Prelude.{ℕ, List, Option, Some}
use Rattle.budget_ports.specs.Contents.{Contents}
use Rattle.budget_ports.specs.Readings.{Readings}
use Rattle.budget_ports.specs.Exchanges.{Exchange}
use Rattle.budget_ports.specs.Memory.{SourceState, SinkState}
use Rattle.budget_ports.specs.KeeperState.{KeeperState}
use Rattle.budget_ports.specs.Script.{LinkState}
use Rattle.budget_ports.specs.MemoryDoor.{DoorState, to_come, outs}
use Rattle.budget_top.specs.Seen.{Seen, seen, seen_in_memory}

-- what the objects that a run is handed tell at a moment: the bytes that are left of the source, what a device sees of the others,
-- the connections that wait at the door and what was written to the others, and how often each has failed
pub record Outside : Type 1 where
  pub left : Option (List ℕ)
  pub source_faults : ℕ
  pub sink_faults : ℕ
  pub keeper_faults : ℕ
  pub waiting : Option (List (List ℕ))
  pub outs : Option (List (List ℕ))
  pub door_faults : ℕ
  pub seen : Seen

-- the same, from what a source, a sink, a keeper, a link, a door and a clock tell, each in its turn
abbrev pub outside : Option (List ℕ) → ℕ → Option (List ℕ) → ℕ → Type 0 → Contents → (Contents → Type 0) → ℕ → Option (List Exchange) → ℕ → Option (List (List ℕ)) → Option (List (List ℕ)) → ℕ → Option Readings → Outside
outside left source_faults taken sink_faults tells contents stop keeper_faults exchanges link_faults waiting outs door_faults readings = record {
  left = left;
  source_faults = source_faults;
  sink_faults = sink_faults;
  keeper_faults = keeper_faults;
  waiting = waiting;
  outs = outs;
  door_faults = door_faults;
  seen = seen taken readings exchanges link_faults tells contents stop;
}

-- what objects in memory tell: all that they hold
abbrev pub outside_in_memory : SourceState → SinkState → KeeperState → LinkState → DoorState → Readings → Outside
outside_in_memory source sink keeper link door clock = record {
  left = Some source.left;
  source_faults = source.calls.faults;
  sink_faults = sink.calls.faults;
  keeper_faults = keeper.calls.faults;
  waiting = Some (to_come door);
  outs = Some (outs door);
  door_faults = door.calls.faults;
  seen = seen_in_memory sink clock link keeper;
}
