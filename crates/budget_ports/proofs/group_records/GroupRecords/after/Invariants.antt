use Rattle.std.proofs.Common.{◌≡◌, ◌++◌, length}
use Rattle.budget_ports.specs.Groups.{bodies_after}
use Rattle.budget_ports.proofs.Latest.{records_back}
use Rattle.budget_ports.proofs.group_records.GroupRecords.after.Given as goal

abbrev pub invariant-loop-latest : goal.invariant-loop-latest
invariant-loop-latest l = l.found.items ++ records_back l.above ≡ bodies_after l.self l.after

abbrev pub decreases-loop-latest : goal.decreases-loop-latest
decreases-loop-latest l = length l.above
