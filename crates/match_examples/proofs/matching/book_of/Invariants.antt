use Rattle.std.proofs.Common.{◌≡◌, false}
use Rattle.match_examples.proofs.matching.book_of.Given as goal

abbrev pub invariant-loop-row : goal.invariant-loop-row
invariant-loop-row l =
    (goal.iterator-loop-row).can_next l.row-iterator ×
    (goal.iterator-loop-row).is_finite l.row-iterator ×
    l.book.spent ≡ false
