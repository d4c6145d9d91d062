use Rattle.std.proofs.Common.{◌≡◌, ◌⊎◌, ◌≤◌, ◌-◌, ◌++◌, List, ℕ, take, length}
use Rattle.budget_ports.specs.Contents.{Contents}
use Rattle.budget_ports.specs.Keeper.{IsAlone}
use Rattle.budget_top.specs.Seen.{seen}
use Rattle.budget_top.specs.Standing.{Entry}
use Rattle.budget_top.specs.DeviceSteps.{IsReady, Stands}
use Rattle.budget_top.proofs.session.Session.feed.Given as goal

abbrev pub invariant-lines : goal.invariant-lines
invariant-lines g l = record {
  within : l.at ≤ length l.bytes;
  stands : (e : Entry) (read : List ℕ)
      → Stands e read l.initial.self (seen (g.W.Sink.taken l.initial.sink) (g.C.WallClock.readings l.initial.clock) (g.L.Link.exchanges l.initial.link) (g.L.Link.faults l.initial.link) (g.K.Keeper.tells l.initial.keeper) (g.K.Keeper.contents l.initial.keeper) (g.K.Keeper.left l.initial.keeper))
      → Stands e (read ++ take l.at l.bytes) l.self (seen (g.W.Sink.taken l.sink) (g.C.WallClock.readings l.clock) (g.L.Link.exchanges l.link) (g.L.Link.faults l.link) (g.K.Keeper.tells l.keeper) (g.K.Keeper.contents l.keeper) (g.K.Keeper.left l.keeper));
  ready : IsReady l.self;
  told : g.K.Keeper.tells l.keeper → g.K.Keeper.tells l.initial.keeper;
  before : (k : Contents) → g.K.Keeper.left l.keeper k → g.K.Keeper.left l.initial.keeper k ⊎ g.K.Keeper.tells l.initial.keeper;
  alone : IsAlone (g.K.Keeper.tells l.initial.keeper) (g.K.Keeper.contents l.initial.keeper) (g.K.Keeper.left l.initial.keeper) → IsAlone (g.K.Keeper.tells l.keeper) (g.K.Keeper.contents l.keeper) (g.K.Keeper.left l.keeper);
  sink : g.W.Sink.faults l.sink ≡ g.W.Sink.faults l.initial.sink;
  keeper : g.K.Keeper.faults l.keeper ≡ g.K.Keeper.faults l.initial.keeper;
}

abbrev pub decreases-lines : goal.decreases-lines
decreases-lines g l = length l.initial.bytes - l.at
