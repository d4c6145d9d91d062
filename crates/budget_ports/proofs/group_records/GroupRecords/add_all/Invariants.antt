use Rattle.std.proofs.Common.{◌≡◌, drop}
use Rattle.budget_ports.specs.Groups.{with_bodies}
use Rattle.budget_ports.specs.Undoing.{taken_out}
use Rattle.budget_ports.proofs.group_records.GroupRecords.add_all.Given as goal

abbrev pub invariant-loop-place : goal.invariant-loop-place
invariant-loop-place l = record {
  rest : with_bodies l.self (drop l.place l.batch) ≡ with_bodies l.fn.self l.batch;
  undone : taken_out l.batch l.self l.added.items ≡ taken_out l.batch l.fn.self l.fn.added.items;
}
