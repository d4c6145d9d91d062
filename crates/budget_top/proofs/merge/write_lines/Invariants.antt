use Rattle.std.proofs.Common.{◌≡◌, length}
use Rattle.budget_top.proofs.Pieces.{IsGiven}
use Rattle.budget_top.proofs.merge.write_lines.Given as goal

abbrev pub invariant-pieces : goal.invariant-pieces
invariant-pieces g l = record {
  given : IsGiven (g.W.Sink.taken l.initial.sink) (g.W.Sink.taken l.sink) l.left l.fn.lines;
  faults : g.W.Sink.faults l.sink ≡ g.W.Sink.faults l.initial.sink;
}

abbrev pub decreases-pieces : goal.decreases-pieces
decreases-pieces g l = length l.left
