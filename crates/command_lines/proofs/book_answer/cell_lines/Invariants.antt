use Rattle.std.proofs.Common.{◌≡◌, map, take}
use Rattle.command_lines.specs.BookAnswers.{cell_text}
use Rattle.command_lines.proofs.book_answer.cell_lines.Given as goal

abbrev pub invariant-loop-cell : goal.invariant-loop-cell
invariant-loop-cell l = l.lines.items ≡ map cell_text (take l.cell-index l.cells)
