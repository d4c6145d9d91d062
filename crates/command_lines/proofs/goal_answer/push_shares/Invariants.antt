use Rattle.std.proofs.Common.{◌≡◌, ◌++◌, map, take}
use Rattle.command_lines.specs.BookAnswers.{share_text}
use Rattle.command_lines.proofs.goal_answer.push_shares.Given as goal

abbrev pub invariant-loop-share : goal.invariant-loop-share
invariant-loop-share l = l.lines.items ≡ l.initial.lines.items ++ map share_text (take l.share-index l.shares)
