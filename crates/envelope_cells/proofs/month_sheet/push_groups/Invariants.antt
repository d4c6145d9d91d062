use Rattle.std.proofs.Common.{◌≡◌, ◌++◌, drop}
use Rattle.envelope_cells.specs.Whole.{all_cells}
use Rattle.envelope_cells.proofs.month_sheet.push_groups.Given as goal

abbrev pub invariant-loop-group : goal.invariant-loop-group
invariant-loop-group l = l.cells.items ++ all_cells l.month (drop l.group-index l.groups) ≡ l.fn.cells.items ++ all_cells l.month l.groups
