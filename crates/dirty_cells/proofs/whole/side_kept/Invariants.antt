use Rattle.std.proofs.Common.{◌≡◌, drop}
use lib.IntN.{◌+ℤ◌}
use Rattle.finite_sums.specs.Sums.{total}
use Rattle.dirty_cells.specs.WholeOf.{kept_of_group}
use Rattle.dirty_cells.proofs.whole.side_kept.Given as goal

abbrev pub invariant-loop-group : goal.invariant-loop-group
invariant-loop-group l = record { rest : l.sum +ℤ total (kept_of_group l.cells l.number l.kind l.income) (drop l.group-index l.groups) ≡ total (kept_of_group l.cells l.number l.kind l.income) l.groups }
