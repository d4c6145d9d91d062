use Rattle.std.proofs.Common.{◌≡◌, ◌++◌, drop}
use Rattle.envelope_cells.specs.Whole.{parts_cells}
use Rattle.envelope_cells.proofs.month_sheet.push_parts.Given as goal

abbrev pub invariant-loop-part : goal.invariant-loop-part
invariant-loop-part l = l.cells.items ++ parts_cells l.month l.is_income (drop l.part-index l.parts) ≡ l.fn.cells.items ++ parts_cells l.month l.is_income l.parts
