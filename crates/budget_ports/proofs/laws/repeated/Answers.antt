use Rattle.budget_ports.proofs.laws.repeated.Goals as goal
use Rattle.budget_ports.proofs.Replies.{replies_repeat}

pub returns : goal.returns
returns c = replies_repeat
