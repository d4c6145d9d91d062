use Rattle.std.proofs.Common.{◌≡◌, ◌++◌, drop, filter}
use Rattle.split_transfer.specs.Pairs.{is_kept}
use Rattle.split_transfer.proofs.pairs.parts_of.Given as goal

abbrev pub invariant-loop-part : goal.invariant-loop-part
invariant-loop-part l = l.kept.items ++ filter (is_kept l.book.rows) (drop l.part-index l.part-items) ≡ filter (is_kept l.book.rows) l.part-items
