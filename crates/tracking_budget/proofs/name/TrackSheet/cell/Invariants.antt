use Rattle.std.proofs.Common.{◌≡◌, drop}
use Rattle.tracking_budget.specs.SheetOf.{value_named}
use Rattle.tracking_budget.proofs.name.TrackSheet.cell.Given as goal

abbrev pub invariant-loop-cell : goal.invariant-loop-cell
invariant-loop-cell l = value_named (drop l.cell-index l.cell-items) l.name ≡ value_named l.self.cells l.name
