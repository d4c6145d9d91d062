use Rattle.std.proofs.Common.{◌≤◌, ◌-◌, length}
use Rattle.budget_cli.proofs.tcp_link.read_reply.Given as goal

abbrev pub invariant-reads : goal.invariant-reads
invariant-reads g l = length l.got.items ≤ 268_435_457

abbrev pub decreases-reads : goal.decreases-reads
decreases-reads g l = 268_435_457 - length l.got.items
