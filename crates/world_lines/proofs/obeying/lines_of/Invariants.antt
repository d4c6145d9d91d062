use Rattle.std.proofs.Common.{◌≡◌, map, take}
use Rattle.field_merge.specs.Messages.{message_line}
use Rattle.world_lines.proofs.obeying.lines_of.Given as goal

-- the lines of the messages so far
abbrev pub invariant-loop-message : goal.invariant-loop-message
invariant-loop-message l = l.lines.items ≡ map message_line (take l.message-index l.messages)
