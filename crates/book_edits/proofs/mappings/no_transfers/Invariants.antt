use Rattle.std.proofs.Common.{◌≡◌, drop}
use Rattle.book_edits.specs.Faults.{each}
use Rattle.book_edits.specs.Checks.{no_transfer}
use Rattle.book_edits.proofs.mappings.no_transfers.Given as goal

abbrev pub invariant-loop-id : goal.invariant-loop-id
invariant-loop-id l = each (no_transfer l.book.rows) (drop l.id-index l.ids) ≡ each (no_transfer l.book.rows) l.ids
