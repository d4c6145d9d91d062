use Rattle.std.proofs.Common.{◌≡◌, ◌+ℤ◌, drop}
use Rattle.envelope_cells.specs.Parts.{side_total}
use Rattle.envelope_cells.proofs.part.total_of_side.Given as goal

abbrev pub invariant-loop-group : goal.invariant-loop-group
invariant-loop-group l = l.sum +ℤ side_total l.pick l.income (drop l.group-index l.groups) ≡ side_total l.pick l.income l.groups
