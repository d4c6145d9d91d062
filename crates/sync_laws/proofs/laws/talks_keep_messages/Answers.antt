use Rattle.budget_top.proofs.NeverLost.{talk_keeps}
use Rattle.sync_laws.proofs.laws.talks_keep_messages.Goals as goal

pub returns : goal.returns
returns c = talk_keeps c.accepted_are_joined.ensures
