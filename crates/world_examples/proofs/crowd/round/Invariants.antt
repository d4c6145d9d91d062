use Rattle.std.proofs.Common.{◌≡◌, false}
use Rattle.world_examples.proofs.crowd.round.Given as goal

-- the session can go on
abbrev pub invariant-loop-device : goal.invariant-loop-device
invariant-loop-device g l = l.session.spent ≡ false
