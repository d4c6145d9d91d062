use Rattle.std.proofs.Common.{◌≡◌, ◌≤◌, ◌-◌, false}
use Rattle.budget_top.proofs.Playing.{ReadSoFar}
use Rattle.budget_top.proofs.world_run.read_all.Given as goal

abbrev pub invariant-reads : goal.invariant-reads
invariant-reads g l = record {
  read : ReadSoFar (g.S.Source.left l.initial.source) (g.S.Source.left l.source) (g.W.Sink.taken l.initial.sink) (g.W.Sink.taken l.sink) l.taken l.play;
  live : l.play.session.spent ≡ false;
  within : l.taken ≤ 1_073_741_824;
  source : g.S.Source.faults l.source ≡ g.S.Source.faults l.initial.source;
  sink : g.W.Sink.faults l.sink ≡ g.W.Sink.faults l.initial.sink;
}

abbrev pub decreases-reads : goal.decreases-reads
decreases-reads g l = 1_073_741_824 - l.taken
