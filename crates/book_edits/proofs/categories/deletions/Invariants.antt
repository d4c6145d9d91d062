use Rattle.std.proofs.Common.{◌≡◌, ◌++◌, map as list_map}
use Rattle.finite_sums.specs.Maps.{keys_where}
use Rattle.book_edits.specs.Categories.{is_live_in, categories_of, category_deletion}
use Rattle.book_edits.proofs.categories.deletions.Given as goal

abbrev pub invariant-loop-id : goal.invariant-loop-id
invariant-loop-id l = l.writes.items ++ list_map category_deletion (keys_where (is_live_in l.book.rows l.group) l.id-iterator) ≡ list_map category_deletion (categories_of l.book.rows l.group)
