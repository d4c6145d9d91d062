use Rattle.std.proofs.Common.{◌≡◌, string_bytes, take}
use Rattle.std.specs.List.{flat_map}
use Rattle.field_merge.specs.Log.{ended_line}
use Rattle.field_merge.proofs.log.Log.field_lines.Given as goal

abbrev pub invariant-loop-arrival : goal.invariant-loop-arrival
invariant-loop-arrival l = string_bytes l.text ≡ flat_map ended_line (take l.arrival-index l.arrival-items)
