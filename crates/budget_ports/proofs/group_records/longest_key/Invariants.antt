use Rattle.std.proofs.Common.{◌≡◌, ℕ, ◌<◌, ◌≤◌, Some, length}
use Rattle.std.specs.List.{slice_get}
use Rattle.budget_ports.specs.declared.keeper.Record.{Record}
use Rattle.budget_ports.proofs.group_records.longest_key.Given as goal

abbrev pub invariant-loop-kept : goal.invariant-loop-kept
invariant-loop-kept l = (i : ℕ) (r : Record) → i < l.kept-index → slice_get l.batch i ≡ Some r → length r.key ≤ l.longest
