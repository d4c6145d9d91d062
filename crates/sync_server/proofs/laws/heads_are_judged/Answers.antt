use Rattle.sync_server.proofs.Judged.{judges, is_judged}
use Rattle.sync_server.proofs.laws.heads_are_judged.Goals as goal

pub returns : goal.returns
returns c token h r = (λ e. judges token h r e, λ j. is_judged token h r j)
