use Rattle.std.proofs.Common.{◌≡◌, false}
use Rattle.world_examples.proofs.crowd.other.Given as goal

-- the session can go on
abbrev pub invariant-questions : goal.invariant-questions
invariant-questions g l = l.session.spent ≡ false
