use Rattle.std.proofs.Common.{◌≡◌, map, take}
use Rattle.tracking_budget.specs.Names.{track_line}
use Rattle.command_lines.proofs.track_answer.lines_of.Given as goal

abbrev pub invariant-loop-cell : goal.invariant-loop-cell
invariant-loop-cell l = l.lines.items ≡ map track_line (take l.cell-index l.cells)
