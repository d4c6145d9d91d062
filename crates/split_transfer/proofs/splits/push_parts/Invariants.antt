use Rattle.std.proofs.Common.{◌≡◌, ◌++◌, drop, length}
use Rattle.split_transfer.specs.Splits.{parts_writes}
use Rattle.split_transfer.proofs.splits.push_parts.Given as goal

abbrev pub invariant-loop-part : goal.invariant-loop-part
invariant-loop-part l =
    l.writes.items ++ parts_writes (length l.writes.items) l.id l.row (drop l.part-index l.parts)
    ≡ l.fn.writes.items ++ parts_writes (length l.fn.writes.items) l.id l.row l.parts
