use Rattle.std.proofs.Common.{◌≡◌}
use Rattle.std.specs.Prelude.{◌||◌}
use Rattle.std.specs.BTreeSet as set
use Rattle.finite_sums.specs.Maps.{Text, text_cmp, is_among, keys_where}
use Rattle.dirty_cells.specs.Marking.{is_in_group, members}
use Rattle.dirty_cells.proofs.marks.mark_members.Given as goal

abbrev pub invariant-loop-id : goal.invariant-loop-id
invariant-loop-id l = (q : Text) → (is_among text_cmp (keys_where (is_in_group l.group) l.id-iterator) q || set.contains text_cmp l.cs q) ≡ (is_among text_cmp (members l.book.rows l.group) q || set.contains text_cmp l.fn.cs q)
