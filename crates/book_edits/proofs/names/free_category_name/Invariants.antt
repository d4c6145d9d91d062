use Rattle.std.proofs.Common.{◌≡◌}
use Rattle.std.specs.FinMap.{entries}
use Rattle.book_edits.specs.Checks.{least_where, is_category_named}
use Rattle.book_edits.proofs.names.free_category_name.Given as goal

abbrev pub invariant-loop-id : goal.invariant-loop-id
invariant-loop-id l = least_where (is_category_named l.book.rows l.group l.name) l.id-iterator ≡ least_where (is_category_named l.book.rows l.group l.name) (entries l.book.rows.categories)
