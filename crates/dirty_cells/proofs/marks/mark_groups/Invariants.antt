use Rattle.std.proofs.Common.{◌≡◌, drop}
use Rattle.std.specs.Prelude.{◌||◌, flat_map}
use Rattle.std.specs.BTreeSet as set
use Rattle.finite_sums.specs.Maps.{Text, text_cmp, is_among}
use Rattle.dirty_cells.specs.Marking.{group_at}
use Rattle.dirty_cells.proofs.marks.mark_groups.Given as goal

abbrev pub invariant-loop-id : goal.invariant-loop-id
invariant-loop-id l = record { all : (q : Text) → (is_among text_cmp (flat_map (group_at l.book.rows) (drop l.id-index l.ids)) q || set.contains text_cmp l.gs q) ≡ (is_among text_cmp (flat_map (group_at l.book.rows) l.ids) q || set.contains text_cmp l.fn.gs q) }
