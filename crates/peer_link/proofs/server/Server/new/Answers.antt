use Rattle.std.proofs.Common.{◌∙◌}
use Rattle.peer_link.proofs.Serving.{begins, begins_empty}
use Rattle.peer_link.proofs.server.Server.new.Goals as goal

pub invariant_of-result : goal.invariant_of-result
invariant_of-result c = begins c.in_ok-state.state c.in_ok-keeper.keeper.contents (c.in_ok-state.ensures.token ∙ c.in_ok-token.ensures) (c.in_ok-state.ensures.agrees c.in_ok-keeper.keeper.contents) c.in_ok-keeper.ensures

pub returns : goal.returns
returns c = begins_empty c.in_ok-keeper.keeper.contents c.in_ok-keeper.ensures
