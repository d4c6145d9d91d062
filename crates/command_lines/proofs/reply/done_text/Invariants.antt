use Rattle.std.proofs.Common.{◌≡◌, ◌++◌, take}
use Rattle.std.specs.Prelude.{codes, string_bytes, length}
use Rattle.std.specs.List.{flat_map}
use Rattle.std.specs.Fmt.{decimal}
use Rattle.field_merge.specs.Lines.{ended}
use Rattle.command_lines.proofs.reply.done_text.Given as goal

abbrev pub invariant-loop-line : goal.invariant-loop-line
invariant-loop-line l = string_bytes l.text ≡ ended (codes "ok " ++ decimal (length l.lines)) ++ flat_map ended (take l.line-index l.lines)
