use Rattle.std.proofs.Common.{◌≡◌, ◌++◌, drop, filter}
use Rattle.std.specs.Prelude.{flat_map}
use Rattle.book_edits.specs.Checks.{distinct}
use Rattle.book_edits.specs.Mappings.{payee_merged}
use Rattle.book_edits.proofs.Once.{is_new}
use Rattle.book_edits.proofs.mappings.all_merged.Given as goal

abbrev pub invariant-loop-id : goal.invariant-loop-id
invariant-loop-id l =
    l.writes.items ++ flat_map (payee_merged l.book.rows l.to) (filter (is_new l.seen) (distinct (drop l.id-index l.ids)))
    ≡ flat_map (payee_merged l.book.rows l.to) (distinct l.ids)
