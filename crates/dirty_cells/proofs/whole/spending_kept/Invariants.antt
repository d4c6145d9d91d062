use Rattle.std.proofs.Common.{◌≡◌, drop, false}
use lib.IntN.{◌+ℤ◌}
use Rattle.finite_sums.specs.Sums.{total}
use Rattle.envelope_cells.specs.declared.name.CellKind.TheVariants.{GroupSum, GroupBudget, GroupLeftover}
use Rattle.dirty_cells.specs.WholeOf.{kept_of_group}
use Rattle.dirty_cells.proofs.whole.spending_kept.Given as goal

abbrev pub invariant-loop-group : goal.invariant-loop-group
invariant-loop-group l = record {
  spent : l.spent +ℤ total (kept_of_group l.cells l.number GroupSum false) (drop l.group-index l.groups) ≡ total (kept_of_group l.cells l.number GroupSum false) l.groups;
  budgets : l.budgets +ℤ total (kept_of_group l.cells l.number GroupBudget false) (drop l.group-index l.groups) ≡ total (kept_of_group l.cells l.number GroupBudget false) l.groups;
  leftover : l.leftover +ℤ total (kept_of_group l.cells l.number GroupLeftover false) (drop l.group-index l.groups) ≡ total (kept_of_group l.cells l.number GroupLeftover false) l.groups;
}
