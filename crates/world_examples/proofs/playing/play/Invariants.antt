use Rattle.world_examples.specs.Played.{IsPlayed}
use Rattle.world_examples.proofs.playing.play.Given as goal

-- so many events have happened
abbrev pub invariant-loop-at : goal.invariant-loop-at
invariant-loop-at g l = IsPlayed l.simulated l.at
