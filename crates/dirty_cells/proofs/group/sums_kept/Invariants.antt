use Rattle.std.proofs.Common.{◌≡◌, drop}
use lib.IntN.{◌+ℤ◌}
use Rattle.finite_sums.specs.Sums.{total}
use Rattle.envelope_cells.specs.declared.name.CellKind.TheVariants.{Sum, Budget as OfBudget, Leftover}
use Rattle.dirty_cells.specs.Right.{kept_value}
use Rattle.dirty_cells.proofs.group.sums_kept.Given as goal

abbrev pub invariant-loop-id : goal.invariant-loop-id
invariant-loop-id l = record {
  sum : l.sum +ℤ total (kept_value l.cells l.number Sum) (drop l.id-index l.ids) ≡ total (kept_value l.cells l.number Sum) l.ids;
  budget : l.budget +ℤ total (kept_value l.cells l.number OfBudget) (drop l.id-index l.ids) ≡ total (kept_value l.cells l.number OfBudget) l.ids;
  leftover : l.leftover +ℤ total (kept_value l.cells l.number Leftover) (drop l.id-index l.ids) ≡ total (kept_value l.cells l.number Leftover) l.ids;
}
