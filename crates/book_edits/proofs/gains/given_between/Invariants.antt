use Rattle.std.proofs.Common.{◌≡◌, ◌-◌, filter}
use Rattle.std.specs.List.{range_with_len}
use Rattle.book_edits.specs.Mappings.{is_given}
use Rattle.book_edits.proofs.gains.given_between.Given as goal

abbrev pub invariant-loop-month : goal.invariant-loop-month
invariant-loop-month l = l.months.items ≡ filter (is_given l.book.rows l.id) (range_with_len l.first (l.month - l.first))
