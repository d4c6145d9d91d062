use Rattle.std.proofs.Common.{◌≡◌, drop}
use Rattle.book_edits.specs.Faults.{each}
use Rattle.book_edits.specs.Checks.{live_payee}
use Rattle.book_edits.proofs.mappings.all_live.Given as goal

abbrev pub invariant-loop-id : goal.invariant-loop-id
invariant-loop-id l = each (live_payee l.book.rows) (drop l.id-index l.ids) ≡ each (live_payee l.book.rows) l.ids
