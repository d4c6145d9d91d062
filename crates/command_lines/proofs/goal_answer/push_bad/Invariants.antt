use Rattle.std.proofs.Common.{◌≡◌, ◌++◌, map, take}
use Rattle.command_lines.specs.BookAnswers.{bad_text}
use Rattle.command_lines.proofs.goal_answer.push_bad.Given as goal

abbrev pub invariant-loop-line : goal.invariant-loop-line
invariant-loop-line l = l.lines.items ≡ l.initial.lines.items ++ map bad_text (take l.line-index l.bad)
