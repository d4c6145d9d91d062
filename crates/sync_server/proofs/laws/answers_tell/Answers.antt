use Rattle.sync_server.proofs.Answers.{they_tell}
use Rattle.sync_server.proofs.laws.answers_tell.Goals as goal

pub returns : goal.returns
returns c = they_tell
