use Rattle.std.proofs.Common.{◌≡◌, ◌++◌, drop}
use Rattle.tracking_budget.specs.Parts.{parts_cells}
use Rattle.tracking_budget.proofs.month_sheet.push_parts.Given as goal

abbrev pub invariant-loop-part : goal.invariant-loop-part
invariant-loop-part l = l.cells.items ++ parts_cells l.month (drop l.part-index l.parts) ≡ l.fn.cells.items ++ parts_cells l.month l.parts
