use Rattle.std.proofs.Common.{◌≡◌, ◌≤◌, ◌-◌, ◌++◌, List, ℕ, Option, false, take, length}
use Rattle.budget_top.specs.WorldSteps.{Stands}
use Rattle.budget_top.proofs.play.Play.feed.Given as goal

abbrev pub invariant-lines : goal.invariant-lines
invariant-lines g l = record {
  within : l.at ≤ length l.bytes;
  stands : (entry : Option (List ℕ)) (read : List ℕ) → Stands entry (g.W.Sink.taken l.initial.sink) read l.initial.self → Stands entry (g.W.Sink.taken l.sink) (read ++ take l.at l.bytes) l.self;
  live : l.self.session.spent ≡ false;
  sink : g.W.Sink.faults l.sink ≡ g.W.Sink.faults l.initial.sink;
}

abbrev pub decreases-lines : goal.decreases-lines
decreases-lines g l = length l.initial.bytes - l.at
