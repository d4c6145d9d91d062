use Rattle.budget_top.proofs.RepliedTo.{get_replies}
use Rattle.sync_laws.proofs.laws.accepted_get_replies.Goals as goal

pub returns : goal.returns
returns c = get_replies c.connections_are_decided.ensures
