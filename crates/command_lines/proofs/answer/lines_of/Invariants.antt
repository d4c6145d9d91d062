use Rattle.std.proofs.Common.{◌≡◌, map, take}
use Rattle.field_merge.specs.Messages.{message_line}
use Rattle.command_lines.proofs.answer.lines_of.Given as goal

abbrev pub invariant-loop-message : goal.invariant-loop-message
invariant-loop-message l = l.lines.items ≡ map message_line (take l.message-index l.messages)
