use Rattle.command_lines.proofs.AnswerLemmas.{they_tell}
use Rattle.command_lines.proofs.laws.answers_tell.Goals as goal

pub returns : goal.returns
returns c = they_tell c.latest_message.ensures c.tries_are_maps.ensures c.reads_back.ensures c.order_free.ensures
