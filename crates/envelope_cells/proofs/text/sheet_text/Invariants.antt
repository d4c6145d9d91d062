use Rattle.std.proofs.Common.{◌≡◌, ◌++◌, drop, string_bytes}
use Rattle.envelope_cells.specs.Text.{sheet_text}
use Rattle.envelope_cells.proofs.text.sheet_text.Given as goal

abbrev pub invariant-loop-cell : goal.invariant-loop-cell
invariant-loop-cell l = string_bytes l.text ++ sheet_text (drop l.cell-index l.cell-items) ≡ sheet_text l.sheet.cells
