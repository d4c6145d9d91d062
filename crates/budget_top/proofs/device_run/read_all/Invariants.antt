use Rattle.std.proofs.Common.{◌≡◌, ◌⊎◌, ◌≤◌, ◌-◌}
use Rattle.budget_ports.specs.Contents.{Contents}
use Rattle.budget_ports.specs.Keeper.{IsAlone}
use Rattle.budget_top.specs.Seen.{seen}
use Rattle.budget_top.specs.DeviceSteps.{IsReady}
use Rattle.budget_top.proofs.Answering.{ReadSoFar}
use Rattle.budget_top.proofs.device_run.read_all.Given as goal

abbrev pub invariant-reads : goal.invariant-reads
invariant-reads g l = record {
  read : ReadSoFar (g.S.Source.left l.initial.source) (g.S.Source.left l.source) l.taken
      l.initial.session (seen (g.W.Sink.taken l.initial.sink) (g.C.WallClock.readings l.initial.clock) (g.L.Link.exchanges l.initial.link) (g.L.Link.faults l.initial.link) (g.K.Keeper.tells l.initial.keeper) (g.K.Keeper.contents l.initial.keeper) (g.K.Keeper.left l.initial.keeper))
      l.session (seen (g.W.Sink.taken l.sink) (g.C.WallClock.readings l.clock) (g.L.Link.exchanges l.link) (g.L.Link.faults l.link) (g.K.Keeper.tells l.keeper) (g.K.Keeper.contents l.keeper) (g.K.Keeper.left l.keeper));
  within : l.taken ≤ 1_073_741_824;
  ready : IsReady l.session;
  told : g.K.Keeper.tells l.keeper → g.K.Keeper.tells l.initial.keeper;
  before : (k : Contents) → g.K.Keeper.left l.keeper k → g.K.Keeper.left l.initial.keeper k ⊎ g.K.Keeper.tells l.initial.keeper;
  alone : IsAlone (g.K.Keeper.tells l.initial.keeper) (g.K.Keeper.contents l.initial.keeper) (g.K.Keeper.left l.initial.keeper) → IsAlone (g.K.Keeper.tells l.keeper) (g.K.Keeper.contents l.keeper) (g.K.Keeper.left l.keeper);
  source : g.S.Source.faults l.source ≡ g.S.Source.faults l.initial.source;
  sink : g.W.Sink.faults l.sink ≡ g.W.Sink.faults l.initial.sink;
  keeper : g.K.Keeper.faults l.keeper ≡ g.K.Keeper.faults l.initial.keeper;
}

abbrev pub decreases-reads : goal.decreases-reads
decreases-reads g l = 1_073_741_824 - l.taken
