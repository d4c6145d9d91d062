use Rattle.std.proofs.Common.{◌≡◌, drop}
use Rattle.book_edits.specs.Faults.{if_there, each}
use Rattle.book_edits.specs.Checks.{live_category}
use Rattle.split_transfer.specs.declared.edit.SplitPart.{SplitPart}
use Rattle.split_transfer.proofs.splits.all_categories.Given as goal

abbrev pub invariant-loop-part : goal.invariant-loop-part
invariant-loop-part l =
    each (λ (p : SplitPart). if_there (live_category l.book.rows) p.category) (drop l.part-index l.parts)
    ≡ each (λ (p : SplitPart). if_there (live_category l.book.rows) p.category) l.parts
