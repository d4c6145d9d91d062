use Rattle.std.proofs.Common.{◌≡◌, ℕ, ◌+◌, ◌*◌, ◌≤◌, take, drop, map}
use lib.IntN.{◌+ℤ◌}
use Rattle.std.specs.Prelude.{◌||◌, flat_map}
use Rattle.std.specs.BTreeSet as set
use Rattle.finite_sums.specs.Sums.{total}
use Rattle.finite_sums.specs.Maps.{Text, text_cmp, is_among}
use Rattle.envelope_cells.specs.Parts.{value_at, sum_name}
use Rattle.dirty_cells.specs.Changes.{share_at, signed}
use Rattle.dirty_cells.specs.Marking.{category_at, month_at_tx, earliest}
use Rattle.dirty_cells.proofs.passing.pass_all.Given as goal

abbrev pub invariant-loop-id : goal.invariant-loop-id
invariant-loop-id g l = record {
  cost : l.steps ≤ l.fn.steps + 2 * l.id-index;
  moved : (c : Text) (m : ℕ) → value_at l.sums (sum_name c m) ≡ value_at l.fn.sums (sum_name c m) +ℤ signed l.into (total (share_at l.book.rows c m) (take l.id-index l.ids));
  all : (q : Text) → (is_among text_cmp (flat_map (category_at l.book.rows) (drop l.id-index l.ids)) q || set.contains text_cmp l.categories q) ≡ (is_among text_cmp (flat_map (category_at l.book.rows) l.ids) q || set.contains text_cmp l.fn.categories q);
  first : earliest l.first (map (month_at_tx l.book.rows) (drop l.id-index l.ids)) ≡ earliest l.number (map (month_at_tx l.book.rows) l.ids);
}
