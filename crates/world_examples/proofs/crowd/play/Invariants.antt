use Rattle.std.proofs.Common.{◌≡◌, false}
use Rattle.world_examples.proofs.crowd.play.Given as goal

-- the session can go on
abbrev pub invariant-loop-at : goal.invariant-loop-at
invariant-loop-at g l = l.session.spent ≡ false
