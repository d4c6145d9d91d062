use Rattle.std.proofs.Common.{◌≡◌, ◌++◌, drop}
use Rattle.envelope_cells.specs.NamesOf.{groups_names}
use Rattle.envelope_cells.proofs.names.push_groups.Given as goal

abbrev pub invariant-loop-group : goal.invariant-loop-group
invariant-loop-group l = l.names.items ++ groups_names l.month (drop l.group-index l.groups) ≡ l.fn.names.items ++ groups_names l.month l.groups
