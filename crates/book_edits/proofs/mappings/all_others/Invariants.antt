use Rattle.std.proofs.Common.{◌≡◌, drop}
use Rattle.book_edits.specs.Faults.{each}
use Rattle.book_edits.specs.Checks.{two_ids}
use Rattle.book_edits.proofs.mappings.all_others.Given as goal

abbrev pub invariant-loop-id : goal.invariant-loop-id
invariant-loop-id l = each (two_ids l.to) (drop l.id-index l.ids) ≡ each (two_ids l.to) l.ids
