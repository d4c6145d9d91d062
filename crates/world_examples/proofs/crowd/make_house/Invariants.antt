use Rattle.std.proofs.Common.{◌≡◌, false}
use Rattle.world_examples.proofs.crowd.make_house.Given as goal

-- the session can go on
abbrev pub invariant-rows : goal.invariant-rows
invariant-rows g l = l.session.spent ≡ false
