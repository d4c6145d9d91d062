use Rattle.std.proofs.Common.{◌≡◌, ◌≤◌, vec_len}
use Rattle.budget_ports.specs.Undoing.{taken_out}
use Rattle.budget_ports.proofs.group_records.GroupRecords.take_out.Given as goal

abbrev pub invariant-loop-place : goal.invariant-loop-place
invariant-loop-place l = record {
  out : taken_out l.batch l.self l.added.items ≡ taken_out l.batch l.fn.self l.fn.added.items;
  room : l.fn.room.1.1 ≤ l.room.1.1;
}

abbrev pub decreases-loop-place : goal.decreases-loop-place
decreases-loop-place l = vec_len l.added
