use Rattle.std.proofs.Common.{◌≡◌, drop, map}
use Rattle.std.specs.Prelude.{◌||◌, flat_map}
use Rattle.std.specs.BTreeSet as set
use Rattle.finite_sums.specs.Maps.{Text, text_cmp, is_among}
use Rattle.dirty_cells.specs.Marking.{categories_by, groups_by, month_by, earliest, is_rearranged}
use Rattle.dirty_cells.proofs.marks.mark_changes.Given as goal

abbrev pub invariant-loop-field : goal.invariant-loop-field
invariant-loop-field l = record {
  categories : (q : Text) → (is_among text_cmp (flat_map (categories_by l.book.rows) (drop l.field-index l.changes)) q || set.contains text_cmp l.begun.categories q) ≡ is_among text_cmp (flat_map (categories_by l.book.rows) l.changes) q;
  groups : (q : Text) → (is_among text_cmp (flat_map (groups_by l.book.rows) (drop l.field-index l.changes)) q || set.contains text_cmp l.begun.groups q) ≡ is_among text_cmp (flat_map (groups_by l.book.rows) l.changes) q;
  first : earliest l.begun.first (map month_by (drop l.field-index l.changes)) ≡ earliest 2760 (map month_by l.changes);
  rearranged : (l.begun.rearranged || is_rearranged (drop l.field-index l.changes)) ≡ is_rearranged l.changes;
}
