use Rattle.sync_server.specs.State.{Agrees}
use Rattle.sync_examples.proofs.serving.visit.Given as goal

-- what the state keeps is what the keeper has
abbrev pub invariant-visits : goal.invariant-visits
invariant-visits l = Agrees l.state l.keeper.contents
