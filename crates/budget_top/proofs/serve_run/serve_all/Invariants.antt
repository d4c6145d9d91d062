use Rattle.std.proofs.Common.{◌≡◌, ◌≤◌, ◌-◌}
use Rattle.sync_server.specs.State.{Agrees}
use Rattle.budget_top.specs.ServeRun.{at_door}
use Rattle.budget_top.specs.ServeSteps.{ServedSoFar}
use Rattle.budget_top.proofs.serve_run.serve_all.Given as goal

abbrev pub invariant-connections : goal.invariant-connections
invariant-connections g l = record {
  served : ServedSoFar l.initial.state.token
      (at_door (g.W.Sink.taken l.initial.sink) (g.D.Door.waiting l.initial.door) (g.D.Door.outs l.initial.door) (g.D.Door.faults l.initial.door) (g.K.Keeper.faults l.initial.keeper) (g.K.Keeper.tells l.initial.keeper) (g.K.Keeper.contents l.initial.keeper) (g.K.Keeper.left l.initial.keeper))
      l.number
      (at_door (g.W.Sink.taken l.sink) (g.D.Door.waiting l.door) (g.D.Door.outs l.door) (g.D.Door.faults l.door) (g.K.Keeper.faults l.keeper) (g.K.Keeper.tells l.keeper) (g.K.Keeper.contents l.keeper) (g.K.Keeper.left l.keeper));
  within : l.number ≤ l.initial.count;
  count : l.count ≡ l.initial.count;
  token : l.state.token ≡ l.initial.state.token;
  agrees : g.K.Keeper.tells l.keeper → Agrees l.state (g.K.Keeper.contents l.keeper);
  sink : g.W.Sink.faults l.sink ≡ g.W.Sink.faults l.initial.sink;
}

abbrev pub decreases-connections : goal.decreases-connections
decreases-connections g l = l.initial.count - l.number
