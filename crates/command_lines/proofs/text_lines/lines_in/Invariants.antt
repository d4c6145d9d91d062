use Rattle.std.proofs.Common.{◌≡◌, ◌++◌, length}
use denote.Shadow.{shadow}
use denote.Text.{Utf8}
use Rattle.command_lines.proofs.Cutting.{pieces}
use Rattle.command_lines.proofs.text_lines.lines_in.Given as goal

abbrev pub invariant-lines : goal.invariant-lines
invariant-lines l = (pieces 10 l.fn.text ≡ l.lines.items ++ pieces 10 l.rest) × shadow (Utf8 l.rest)

abbrev pub decreases-lines : goal.decreases-lines
decreases-lines l = length l.rest
