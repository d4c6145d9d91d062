use Rattle.std.proofs.Common.{◌≤◌, ◌-◌, length}
use Rattle.budget_cli.proofs.tcp_link.write_all.Given as goal

abbrev pub invariant-writes : goal.invariant-writes
invariant-writes g l = l.at ≤ length l.bytes

abbrev pub decreases-writes : goal.decreases-writes
decreases-writes g l = length l.bytes - l.at
