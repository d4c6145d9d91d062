use Rattle.std.proofs.Common.{◌≡◌, ◌++◌, take}
use Rattle.split_transfer.specs.Writing.{on_each}
use Rattle.split_transfer.proofs.writing.push_each.Given as goal

abbrev pub invariant-loop-id : goal.invariant-loop-id
invariant-loop-id l = l.writes.items ≡ l.fn.writes.items ++ on_each l.column l.value (take l.id-index l.ids)
