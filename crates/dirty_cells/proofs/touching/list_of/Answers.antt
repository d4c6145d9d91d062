use Rattle.std.proofs.Common.{[], sym, subst, ◌∙◌}
use Rattle.std.specs.List.Sorted.{IsStrictlySortedBy}
use Rattle.finite_sums.specs.Maps.{text_cmp}
use Rattle.dirty_cells.proofs.touching.list_of.Goals as goal

none_sorted : IsStrictlySortedBy text_cmp []
unfolding IsStrictlySortedBy
none_sorted = tt

pub returns-then-is_empty-clause-sorted : goal.returns-then-is_empty-clause-sorted
returns-then-is_empty-clause-sorted c = subst (IsStrictlySortedBy text_cmp) (sym (c.new-then-is_empty.ensures ∙ c.new.ensures.items)) none_sorted
